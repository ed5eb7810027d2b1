use Rattle.flatten_rules.proofs.Steps.{master-up}
use Rattle.flatten_rules.proofs.walk.way.Way.place_of_master.Goals as goal

pub unreachable-requires : goal.unreachable-requires
unreachable-requires c =
    let a = c.self.inside in
    let there = rw (← c.self.view_is) at c.requires in
    master-up a.plain.now a.top c.args.inst.now.id _ c.args.inst.now c.self.invariant.sound there c.in-None.ensures.none
