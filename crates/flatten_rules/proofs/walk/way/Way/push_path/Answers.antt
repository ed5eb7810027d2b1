use Rattle.std.proofs.Common.{ap, length, sym, ◌∙◌}
use Rattle.flatten_rules.proofs.Steps.{whole-front, path-before, path-from_nothing}
use Rattle.flatten_rules.proofs.walk.way.Way.push_path.Goals as goal

pub returns-in-None-clause-ok : goal.returns-in-None-clause-ok
returns-in-None-clause-ok c =
    let a = c.self.inside in
    let text = whole-front a.plain.now a.top a.first.now a.ports.items a.steps.items a.front c.self.invariant in
    rw (← c.self.view_is, path-from_nothing a.front _ (ap length (sym c.as_slice.ensures) ∙ c.in-None.ensures.cases) text) c.push.ensures.ok

pub returns-in-Some-clause-ok : goal.returns-in-Some-clause-ok
returns-in-Some-clause-ok c =
    let a = c.self.inside in
    let text = whole-front a.plain.now a.top a.first.now a.ports.items a.steps.items a.front c.self.invariant in
    rw (← c.self.view_is, ← path-before a.front c.in-Some.path.now c.in-Some._slash.now _ (sym c.as_slice.ensures ∙ c.in-Some.ensures.cases.0) text) c.extend.ensures.ok
