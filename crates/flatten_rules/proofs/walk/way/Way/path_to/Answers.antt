use Rattle.std.proofs.Common.{take, sym, ap, ◌∙◌, arith}
use Rattle.std.proofs.lemmas.List.{take_all, take-map}
use Rattle.flatten_rules.specs.inside.Steps.{path_of}
use Rattle.flatten_rules.specs.declared.walk.way.Step.{Step}
use Rattle.flatten_rules.proofs.walk.way.Way.path_to.Goals as goal

pub returns : goal.returns
returns c =
    let steps = c.deref.result.now in
    c.loop-step.invariant
    ∙ ap path_of (take_all c.loop-step.step-index (take c.args.depth steps) (omega (arith, c.loop-step-test.false)))
    ∙ sym (take-map (λ (step : Step). step.inst.now.id) c.args.depth steps)
    ∙ ap (λ all. take c.args.depth (path_of all)) c.deref.ensures.value
    ∙ ap (λ way. take c.args.depth way.path) c.self.view_is
