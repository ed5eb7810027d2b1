use Rattle.std.proofs.Common.{◌≡◌, ◌++◌, map, length}
use Rattle.std.specs.List.{filter}
use Rattle.flatten_rules.specs.Domains.{NetBit, is_own, root_of, block_nets}
use Rattle.flatten_rules.specs.FlatLines.{net_line}
use Rattle.flatten_rules.proofs.lines.push_nets.Given as goal

-- The lines so far, with those that are still to come, are all.
abbrev pub invariant-loop-bits : goal.invariant-loop-bits
invariant-loop-bits l = record {
  plain : l.bits.plain ≡ l.fn.plain;
  top : l.bits.top ≡ l.fn.top;
  all : l.lines.items ++ map (net_line l.fn.plain l.fn.top) (filter (λ (bit : NetBit). is_own bit (root_of l.fn.plain l.fn.top bit)) l.bits.rest) ≡ l.initial.lines.items ++ map (net_line l.fn.plain l.fn.top) (block_nets l.fn.plain l.fn.top);
}

abbrev pub decreases-loop-bits : goal.decreases-loop-bits
decreases-loop-bits l = length l.bits.rest
