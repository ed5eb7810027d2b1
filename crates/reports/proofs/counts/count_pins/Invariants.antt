use Rattle.std.proofs.Common.{◌≡◌, ◌+◌, length}
use Rattle.flatten_rules.specs.Domains.{pins}
use Rattle.reports.proofs.counts.count_pins.Given as goal

-- What is counted so far, with what is still to come, is all.
abbrev pub invariant-loop-pins : goal.invariant-loop-pins
invariant-loop-pins l = record {
  plain : l.pins.plain ≡ l.fn.plain;
  top : l.pins.top ≡ l.fn.top;
  all : l.all + length l.pins.rest ≡ length (pins l.fn.plain l.fn.top);
}

abbrev pub decreases-loop-pins : goal.decreases-loop-pins
decreases-loop-pins l = length l.pins.rest
