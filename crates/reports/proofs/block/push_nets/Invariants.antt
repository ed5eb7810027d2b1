use Rattle.std.proofs.Common.{◌≡◌, ◌++◌, take, length}
use Rattle.std.specs.List.{flat_map, filter}
use Rattle.flatten_rules.specs.Domains.{NetBit, is_own, root_of, block_nets}
use Rattle.reports.specs.Block.{net_line}
use Rattle.reports.specs.inside.PinCounts.{AreCounted}
use Rattle.reports.proofs.Along.{AreInner}
use Rattle.reports.proofs.block.push_nets.Given as goal

-- The lines so far and those of the block nets that are still to come are all.
abbrev pub invariant-loop-bits : goal.invariant-loop-bits
invariant-loop-bits l = record {
  plain : l.bits.plain ≡ l.fn.plain;
  top : l.bits.top ≡ l.fn.top;
  inner : AreInner l.fn.plain l.fn.top l.bits.rest;
  counted : AreCounted l.fn.plain l.counts.modules.items;
  kept : take (length l.initial.out) l.out ≡ l.initial.out;
  text : l.out ++ flat_map (net_line l.fn.plain l.fn.top) (filter (λ (bit : NetBit). is_own bit (root_of l.fn.plain l.fn.top bit)) l.bits.rest)
      ≡ l.initial.out ++ flat_map (net_line l.fn.plain l.fn.top) (block_nets l.fn.plain l.fn.top);
}

abbrev pub decreases-loop-bits : goal.decreases-loop-bits
decreases-loop-bits l = length l.bits.rest
