use Rattle.std.proofs.Common.{take}
use Rattle.std.specs.List.{count_by}
use Rattle.watch_kit.specs.NetBits.{is_bit}
use Rattle.watch_kit.specs.inside.Counting.{CountsMore}
use Rattle.watch_kit.proofs.sink_counts.SinkCounts.count_sources.Given as goal

abbrev pub invariant-loop-source : goal.invariant-loop-source
invariant-loop-source l = CountsMore l.initial.self (λ b. count_by (is_bit b) (take l.source-index l.sources)) l.self
