use Rattle.std.proofs.Common.{◌<◌, ◌↔◌, ◌≡◌, true, Contains, length, ap, arith}
use Rattle.flatten_rules.proofs.Following.{adds-none, adds-one, marked-fresh, marked-more}
use Rattle.flatten_rules.proofs.reach.Reached.add.Goals as goal

pub returns-then-has-clause-order : goal.returns-then-has-clause-order
returns-then-has-clause-order c = adds-none c.args.self.now.0 c.args.node (c.has.ensures.0 c.if-has.true)

pub invariant_of-self-2 : goal.invariant_of-self-2
invariant_of-self-2 c =
    let order = c.self.inside.order in
    let flags = c.self.inside.flags.items in
    let within : c.args.node < length flags = omega (arith, ap (λ view. view.1) c.self.view_is) in
    let tells : (c.has.result ≡ true) ↔ Contains order c.args.node = rw (ap (λ view. view.0) c.self.view_is) c.has.ensures in
    rw c.in_ok-push.ensures.ok
    (marked-more order flags c.args.node c.self.invariant within (marked-fresh order flags c.args.node c.has.result c.self.invariant within tells c.if-has.false))

pub returns-clause-order : goal.returns-clause-order
returns-clause-order c = rw (c.in_ok-push.ensures.ok, ← c.self.view_is) (adds-one c.self.inside.order c.args.node)
