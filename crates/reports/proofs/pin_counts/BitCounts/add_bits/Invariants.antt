use Rattle.std.proofs.Common.{map}
use Rattle.std.specs.List.{range_with_len}
use Rattle.reports.specs.inside.PinCounts.{AddsEach}
use Rattle.reports.proofs.pin_counts.BitCounts.add_bits.Given as goal

-- A pin is counted at each bit so far.
abbrev pub invariant-loop-offset : goal.invariant-loop-offset
invariant-loop-offset l = AddsEach l.initial.self.counts.entries l.self.counts.entries (map (λ offset. (l.net, offset)) (range_with_len 0 l.offset))
