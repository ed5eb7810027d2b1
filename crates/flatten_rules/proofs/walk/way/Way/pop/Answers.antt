use Rattle.flatten_rules.proofs.Steps.{leads-pop}
use Rattle.flatten_rules.proofs.walk.way.Way.pop.Goals as goal

pub invariant_of-self : goal.invariant_of-self
invariant_of-self c =
    let a = c.self.inside in
    rw c.truncate.ensures (leads-pop a.plain.now a.top a.first.now a.ports.items a.steps.items c.pop.new.self.items c.in-Some.step a.front c.self.invariant c.in-Some.ensures.items)
