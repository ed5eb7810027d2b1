use Rattle.std.proofs.Common.{◌≡◌, ◌++◌, take, length, map}
use Rattle.std.specs.List.{flat_map, range_with_len}
use Rattle.reports.specs.Occurrences.{bit_line}
use Rattle.reports.proofs.Kept.{bit_at}
use Rattle.reports.proofs.occurrences.push_net_bits.Given as goal

-- The lines of the bits so far stand last.
abbrev pub invariant-loop-offset : goal.invariant-loop-offset
invariant-loop-offset l = record {
  kept : take (length l.initial.out) l.out ≡ l.initial.out;
  text : l.out ≡ l.initial.out ++ flat_map (bit_line l.way.plain l.way.top) (map (bit_at l.way.path l.net.id) (range_with_len 0 l.offset));
}
