use Rattle.std.proofs.Common.{take, flat_map}
use Rattle.std.specs.List.{zip}
use Rattle.reports.specs.inside.Links.{links_of}
use Rattle.reports.specs.inside.PinCounts.{count_at, Joins}
use Rattle.reports.proofs.pin_counts.BitCounts.add_inst.Given as goal

-- The pins at the ports so far are counted at the sources of their bits.
abbrev pub invariant-loop-at : goal.invariant-loop-at
invariant-loop-at l = Joins (λ port offset. count_at l.below.counts.entries (port, offset)) l.initial.self.counts.entries l.self.counts.entries (flat_map links_of (take l.at (zip l.ports l.conns)))
