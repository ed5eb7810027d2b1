use Rattle.std.proofs.Common.{◌≡◌, ◌++◌, map, length}
use Rattle.flatten_rules.specs.Domains.{pins}
use Rattle.flatten_rules.specs.Fresh.{fresh_pin}
use Rattle.flatten_rules.proofs.flatten.pins_of.Given as goal

-- What is made so far, with what is still to come, is all.
abbrev pub invariant-loop-pins : goal.invariant-loop-pins
invariant-loop-pins l = record {
  plain : l.pins.plain ≡ l.fn.plain;
  top : l.pins.top ≡ l.fn.top;
  all : l.made ++ map (fresh_pin l.fn.plain l.fn.top) l.pins.rest ≡ map (fresh_pin l.fn.plain l.fn.top) (pins l.fn.plain l.fn.top);
}

abbrev pub decreases-loop-pins : goal.decreases-loop-pins
decreases-loop-pins l = length l.pins.rest
