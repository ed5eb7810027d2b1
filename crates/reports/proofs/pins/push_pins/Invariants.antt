use Rattle.std.proofs.Common.{◌≡◌, ◌++◌, take, length}
use Rattle.std.specs.List.{flat_map}
use Rattle.reports.specs.Pins.{pin_line, pins_text}
use Rattle.reports.proofs.pins.push_pins.Given as goal

-- The lines so far and those of the pins that are still to come are the report.
abbrev pub invariant-loop-pins : goal.invariant-loop-pins
invariant-loop-pins l = record {
  plain : l.pins.plain ≡ l.fn.plain;
  top : l.pins.top ≡ l.fn.top;
  kept : take (length l.initial.out) l.out ≡ l.initial.out;
  text : l.out ++ flat_map (pin_line l.fn.plain l.fn.top) l.pins.rest ≡ l.initial.out ++ pins_text l.fn.plain l.fn.top;
}

abbrev pub decreases-loop-pins : goal.decreases-loop-pins
decreases-loop-pins l = length l.pins.rest
