use Rattle.std.proofs.Common.{refl, take}
use Rattle.std.specs.List.{flat_map}
use Rattle.watch_kit.specs.Sinks.{joins_of}
use Rattle.watch_kit.proofs.Joins.{flat-more}
use Rattle.watch_kit.proofs.Counts.{counts-none, counts-more}
use Rattle.watch_kit.proofs.sink_counts.SinkCounts.count_insts.Goals as goal

pub loop-inst-init : goal.loop-inst-init
loop-inst-init c = counts-none c.args.self.now _ (λ b. refl)

pub loop-inst-preserved : goal.loop-inst-preserved
loop-inst-preserved c =
    let of_inst = joins_of c.args.plain.now in
    counts-more c.args.self.now c.loop-inst.self c.count_inst.new.self (flat_map of_inst (take c.loop-inst.inst-index c.args.insts.now)) (of_inst c.inst-item.result) _ c.loop-inst.invariant c.in_ok-count_inst.ensures
    (flat-more of_inst c.args.insts.now c.loop-inst.inst-index c.inst-item.result c.loop-inst-test.true c.inst-item.is)
