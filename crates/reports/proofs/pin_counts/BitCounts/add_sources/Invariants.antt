use Rattle.std.proofs.Common.{take}
use Rattle.reports.specs.inside.Links.{links_from}
use Rattle.reports.specs.inside.PinCounts.{count_at, Joins}
use Rattle.reports.proofs.pin_counts.BitCounts.add_sources.Given as goal

-- The pins at the bits so far are counted at their sources.
abbrev pub invariant-loop-offset : goal.invariant-loop-offset
invariant-loop-offset l = Joins (λ port offset. count_at l.below.counts.entries (port, offset)) l.initial.self.counts.entries l.self.counts.entries (links_from l.port 0 (take l.offset l.bits))
