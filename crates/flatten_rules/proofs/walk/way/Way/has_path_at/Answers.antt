use Rattle.std.proofs.Common.{◌≡◌, ◌<◌, ◌≤◌, get_or, take, length, arith}
use Rattle.std.proofs.lemmas.List.{get_or_default, length-map}
use Rattle.emh_base.specs.declared.ids.InstId.{InstId}
use Rattle.flatten_rules.specs.inside.Steps.{path_of}
use Rattle.flatten_rules.specs.declared.walk.way.Step.{Step}
use Rattle.flatten_rules.proofs.Paths.{step-there, same-more}
use Rattle.flatten_rules.proofs.walk.way.Way.has_path_at.Goals as goal

pub loop-at-preserved : goal.loop-at-preserved
loop-at-preserved c =
    let steps = c.self.inside.steps.items in
    let other = c.steps-steps.result.now in
    let at = c.loop-at.at in
    let zero : InstId = record { 0 = 0 } in
    let within = rw (← c.self.view_is) at c.requires in
    let before = rw (← c.self.view_is) at c.loop-at.invariant in
    let in_steps : at < length steps = omega (arith, within, length-map steps (λ (x : Step). x.inst.now.id), c.loop-at-test.true) in
    let in_path : at < length (path_of steps) = omega (arith, in_steps, length-map steps (λ (x : Step). x.inst.now.id)) in
    let in_other : at < length other = omega (arith, c.if-steps-depth.false, c.loop-at-test.true) in
    rw (← c.self.view_is)
    (same-more (path_of steps) other at c.index.result.now.inst.now.id (get_or other at zero) in_path in_other before (step-there steps at c.index.result.now in_steps c.index.ensures) (get_or_default other at (get_or other at zero) zero in_other) c.if-index-steps.false)
