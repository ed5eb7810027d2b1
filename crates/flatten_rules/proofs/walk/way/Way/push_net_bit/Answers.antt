use Rattle.flatten_rules.proofs.Steps.{whole-front}
use Rattle.flatten_rules.proofs.walk.way.Way.push_net_bit.Goals as goal

pub returns-clause-ok : goal.returns-clause-ok
returns-clause-ok c =
    let a = c.self.inside in
    rw (← c.self.view_is, ← whole-front a.plain.now a.top a.first.now a.ports.items a.steps.items a.front c.self.invariant) (rw c.as_slice.ensures at c.push_bit.ensures.ok)
