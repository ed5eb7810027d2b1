use Rattle.std.proofs.Common.{◌-◌, arith}
use Rattle.std.proofs.lemmas.List.{length-map}
use Rattle.flatten_rules.specs.declared.walk.way.Step.{Step}
use Rattle.flatten_rules.proofs.Steps.{top-module, top-sound, step-module, step-sound}
use Rattle.flatten_rules.proofs.walk.way.Way.module_at.Goals as goal

pub returns-then-depth-eq0-clause-there : goal.returns-then-depth-eq0-clause-there
returns-then-depth-eq0-clause-there c =
    let a = c.self.inside in
    rw (← c.self.view_is) (top-module a.plain.now a.top a.first.now a.ports.items a.steps.items a.front c.self.invariant c.args.depth c.if-depth-eq0.true)

pub returns-then-depth-eq0-clause-sound : goal.returns-then-depth-eq0-clause-sound
returns-then-depth-eq0-clause-sound c =
    let a = c.self.inside in
    rw (← c.self.view_is) (top-sound a.plain.now a.top a.first.now a.ports.items a.steps.items a.front c.self.invariant)

pub returns-else-depth-eq0-clause-there : goal.returns-else-depth-eq0-clause-there
returns-else-depth-eq0-clause-there c =
    let a = c.self.inside in
    let within = rw (← c.self.view_is) at c.requires in
    rw (← c.self.view_is) (step-module a.plain.now a.top a.first.now a.ports.items a.steps.items a.front c.self.invariant (c.args.depth - 1) c.index.result.now (omega (arith, within, length-map a.steps.items (λ (x : Step). x.inst.now.id))) c.index.ensures c.args.depth (omega (arith, c.if-depth-eq0.false)))

pub returns-else-depth-eq0-clause-sound : goal.returns-else-depth-eq0-clause-sound
returns-else-depth-eq0-clause-sound c =
    let a = c.self.inside in
    let within = rw (← c.self.view_is) at c.requires in
    rw (← c.self.view_is) (step-sound a.plain.now a.top a.first.now a.ports.items a.steps.items a.front c.self.invariant (c.args.depth - 1) c.index.result.now (omega (arith, within, length-map a.steps.items (λ (x : Step). x.inst.now.id))) c.index.ensures)
