use Rattle.std.proofs.Common.{◌≡◌, ◌+◌, length}
use Rattle.std.specs.List.{filter}
use Rattle.flatten_rules.specs.Domains.{NetBit, is_own, root_of, net_bits, block_nets}
use Rattle.reports.proofs.counts.count_bits.Given as goal

-- What is counted so far, with what is still to come, is all.
abbrev pub invariant-loop-bits : goal.invariant-loop-bits
invariant-loop-bits l = record {
  plain : l.bits.plain ≡ l.fn.plain;
  top : l.bits.top ≡ l.fn.top;
  all : l.all + length l.bits.rest ≡ length (net_bits l.fn.plain l.fn.top);
  own : l.own + length (filter (λ (bit : NetBit). is_own bit (root_of l.fn.plain l.fn.top bit)) l.bits.rest) ≡ length (block_nets l.fn.plain l.fn.top);
}

abbrev pub decreases-loop-bits : goal.decreases-loop-bits
decreases-loop-bits l = length l.bits.rest
