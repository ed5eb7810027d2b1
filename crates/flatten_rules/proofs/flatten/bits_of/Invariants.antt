use Rattle.std.proofs.Common.{◌≡◌, ◌++◌, map, length}
use Rattle.flatten_rules.specs.Domains.{net_bits}
use Rattle.flatten_rules.specs.Fresh.{fresh_bit}
use Rattle.flatten_rules.proofs.flatten.bits_of.Given as goal

-- What is made so far, with what is still to come, is all.
abbrev pub invariant-loop-bits : goal.invariant-loop-bits
invariant-loop-bits l = record {
  plain : l.bits.plain ≡ l.fn.plain;
  top : l.bits.top ≡ l.fn.top;
  all : l.made ++ map (fresh_bit l.fn.plain l.fn.top) l.bits.rest ≡ map (fresh_bit l.fn.plain l.fn.top) (net_bits l.fn.plain l.fn.top);
}

abbrev pub decreases-loop-bits : goal.decreases-loop-bits
decreases-loop-bits l = length l.bits.rest
