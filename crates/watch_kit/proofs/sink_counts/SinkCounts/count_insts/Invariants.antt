use Rattle.std.proofs.Common.{take}
use Rattle.std.specs.List.{flat_map}
use Rattle.watch_kit.specs.Sinks.{joins_of}
use Rattle.watch_kit.specs.inside.Counting.{CountsMore, sinks_among}
use Rattle.watch_kit.proofs.sink_counts.SinkCounts.count_insts.Given as goal

abbrev pub invariant-loop-inst : goal.invariant-loop-inst
invariant-loop-inst l = CountsMore l.initial.self (sinks_among (flat_map (joins_of l.plain) (take l.inst-index l.insts))) l.self
