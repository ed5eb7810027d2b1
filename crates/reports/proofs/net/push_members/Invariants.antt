use Rattle.std.proofs.Common.{◌≡◌, ◌++◌, take, length}
use Rattle.std.specs.List.{flat_map, filter}
use Rattle.flatten_rules.specs.Domains.{NetBit, root_of}
use Rattle.reports.specs.Net.{is_same, members, member_line}
use Rattle.reports.proofs.net.push_members.Given as goal

-- The lines so far and those of the net bits that are still to come are all.
abbrev pub invariant-loop-bits : goal.invariant-loop-bits
invariant-loop-bits l = record {
  plain : l.bits.plain ≡ l.fn.plain;
  top : l.bits.top ≡ l.fn.top;
  kept : take (length l.initial.out) l.out ≡ l.initial.out;
  text : l.out ++ flat_map (member_line l.fn.plain l.fn.top) (filter (λ (bit : NetBit). is_same l.fn.root (root_of l.fn.plain l.fn.top bit)) l.bits.rest)
      ≡ l.initial.out ++ flat_map (member_line l.fn.plain l.fn.top) (members l.fn.plain l.fn.top l.fn.root);
}

abbrev pub decreases-loop-bits : goal.decreases-loop-bits
decreases-loop-bits l = length l.bits.rest
