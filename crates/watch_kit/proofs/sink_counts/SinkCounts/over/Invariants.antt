use Rattle.std.proofs.Common.{◌≡◌, nat_lt, unwrap_or, filter, take}
use Rattle.watch_kit.specs.inside.Keys.{count_at}
use Rattle.watch_kit.proofs.sink_counts.SinkCounts.over.Given as goal

abbrev pub invariant-loop-bit : goal.invariant-loop-bit
invariant-loop-bit l =
    l.found ≡ filter (λ bit. nat_lt l.self.limit (unwrap_or (count_at l.self.counts.entries bit) 0)) (take l.bit-index l.bits)
