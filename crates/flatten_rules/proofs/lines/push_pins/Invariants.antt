use Rattle.std.proofs.Common.{◌≡◌, ◌++◌, map, length}
use Rattle.flatten_rules.specs.Domains.{pins}
use Rattle.flatten_rules.specs.FlatLines.{pin_line}
use Rattle.flatten_rules.proofs.lines.push_pins.Given as goal

-- The lines so far, with those that are still to come, are all.
abbrev pub invariant-loop-pins : goal.invariant-loop-pins
invariant-loop-pins l = record {
  plain : l.pins.plain ≡ l.fn.plain;
  top : l.pins.top ≡ l.fn.top;
  all : l.lines.items ++ map (pin_line l.fn.plain l.fn.top) l.pins.rest ≡ l.initial.lines.items ++ map (pin_line l.fn.plain l.fn.top) (pins l.fn.plain l.fn.top);
}

abbrev pub decreases-loop-pins : goal.decreases-loop-pins
decreases-loop-pins l = length l.pins.rest
