use Rattle.flatten_rules.proofs.Steps.{leads-push, placed}
use Rattle.flatten_rules.proofs.walk.way.Way.push.Goals as goal

pub invariant_of-self-in-Ok : goal.invariant_of-self-in-Ok
invariant_of-self-in-Ok c =
    let a = c.self.inside in
    let there = rw (← c.self.view_is) at c.requires in
    let found = rw (← c.self.view_is) at c.place_of_master-place.ensures in
    let at = placed a.plain.now c.args.inst.now.master c.place_of_master-place.result c.index-as_slice-place.result c.as_slice.result.now found c.as_slice.ensures c.index-as_slice-place.is in
    leads-push a.plain.now a.top a.first.now a.ports.items a.steps.items c.push.new.self.items _ a.front c.push_front.new.front c.self.invariant c.in_ok-push.ensures.items there at c.len.ensures c.in-Ok.ensures.ok
