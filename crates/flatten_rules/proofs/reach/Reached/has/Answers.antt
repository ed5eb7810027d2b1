use Rattle.std.proofs.Common.{◌<◌, false, length, ap, arith}
use Rattle.std.proofs.lemmas.List.{get_or_read}
use Rattle.flatten_rules.proofs.Following.{marked-has}
use Rattle.flatten_rules.proofs.reach.Reached.has.Goals as goal

pub returns : goal.returns
returns c =
    let flags = c.self.inside.flags.items in
    let within : c.args.node < length flags = omega (arith, ap (λ view. view.1) c.self.view_is) in
    rw (← c.self.view_is) (marked-has c.self.inside.order flags c.args.node c.index.result.now c.self.invariant within (get_or_read flags c.args.node c.index.result.now within c.index.ensures false))
