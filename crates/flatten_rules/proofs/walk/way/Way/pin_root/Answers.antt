use Rattle.std.proofs.Common.{Some, reverse, refl, sym, ap, ◌∙◌, arith}
use Rattle.std.proofs.lemmas.List.{take_all}
use Rattle.flatten_rules.specs.Root.{pin_root}
use Rattle.flatten_rules.proofs.Steps.{pin-through}
use Rattle.flatten_rules.proofs.walk.way.Way.pin_root.Goals as goal

pub returns-in-Some-clause-root : goal.returns-in-Some-clause-root
returns-in-Some-clause-root c =
    let M = c.args.self.now.plain in
    let top = c.args.self.now.top in
    let path = c.args.self.now.path in
    let depth = c.depth-depth.result in
    let through = pin-through M top path depth c.args.port c.args.offset c.in-Some.source (c.in-Some.ensures.below refl) (omega (arith, c.depth-depth.ensures)) c.in-Some.ensures.source in
    ap Some c.root_of_source.ensures.root ∙ sym through ∙ ap (λ p. pin_root M top (reverse p) c.args.port c.args.offset) (take_all depth path (omega (arith, c.depth-depth.ensures)))
