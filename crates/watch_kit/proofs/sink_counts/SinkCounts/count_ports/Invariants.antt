use Rattle.std.proofs.Common.{map, take}
use Rattle.std.specs.List.{zip}
use Rattle.watch_kit.specs.Sinks.{join}
use Rattle.watch_kit.specs.inside.Counting.{CountsMore, sinks_among}
use Rattle.watch_kit.proofs.sink_counts.SinkCounts.count_ports.Given as goal

abbrev pub invariant-loop-at : goal.invariant-loop-at
invariant-loop-at l = CountsMore l.initial.self (sinks_among (map (join l.inst) (take l.at (zip l.ports l.conns)))) l.self
