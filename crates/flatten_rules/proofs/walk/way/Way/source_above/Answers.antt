use Rattle.std.proofs.Common.{◌-◌, sym, arith, ◌∙◌}
use Rattle.std.proofs.lemmas.List.{length-map}
use Rattle.flatten_rules.specs.declared.walk.way.Step.{Step}
use Rattle.flatten_rules.proofs.Steps.{step-place, step-ports, step-sound, step-source}
use Rattle.flatten_rules.proofs.walk.way.Way.source_above.Goals as goal

pub index-requires : goal.index-requires
index-requires c =
    let a = c.self.inside in
    let within = rw (← c.self.view_is) at c.requires in
    let place = step-place a.plain.now a.top a.first.now a.ports.items a.steps.items a.front c.self.invariant (c.args.depth - 1) c.index-step.result.now (omega (arith, within, length-map a.steps.items (λ (x : Step). x.inst.now.id), c.if-depth-eq0.false)) c.index-step.ensures in
    omega (arith, place, c.self.invariant.places.many)

pub source_through-requires-clause-sound : goal.source_through-requires-clause-sound
source_through-requires-clause-sound c =
    let a = c.self.inside in
    let within = rw (← c.self.view_is) at c.requires in
    (a.plain.now, step-sound a.plain.now a.top a.first.now a.ports.items a.steps.items a.front c.self.invariant (c.args.depth - 1) c.index-step.result.now (omega (arith, within, length-map a.steps.items (λ (x : Step). x.inst.now.id), c.if-depth-eq0.false)) c.index-step.ensures)

pub source_through-requires-clause-places : goal.source_through-requires-clause-places
source_through-requires-clause-places c =
    let a = c.self.inside in
    let within = rw (← c.self.view_is) at c.requires in
    rw c.as_slice-ports.ensures.value (step-ports a.plain.now a.top a.first.now a.ports.items a.steps.items a.front c.self.invariant (c.args.depth - 1) c.index-step.result.now (omega (arith, within, length-map a.steps.items (λ (x : Step). x.inst.now.id), c.if-depth-eq0.false)) c.index-step.ensures c.index.result.now c.index.ensures)

pub returns-clause-source : goal.returns-clause-source
returns-clause-source c =
    let a = c.self.inside in
    let within = rw (← c.self.view_is) at c.requires in
    rw (← c.self.view_is) (c.source_through.ensures ∙ sym (step-source a.plain.now a.top a.first.now a.ports.items a.steps.items a.front c.self.invariant (c.args.depth - 1) c.index-step.result.now (omega (arith, within, length-map a.steps.items (λ (x : Step). x.inst.now.id), c.if-depth-eq0.false)) c.index-step.ensures c.args.depth c.args.net c.args.offset (omega (arith, c.if-depth-eq0.false))))
