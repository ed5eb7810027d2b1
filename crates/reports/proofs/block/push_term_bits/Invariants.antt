use Rattle.std.proofs.Common.{◌≡◌, ◌++◌, take, length}
use Rattle.std.specs.List.{flat_map, range_with_len}
use Rattle.reports.specs.Block.{term_line}
use Rattle.reports.proofs.block.push_term_bits.Given as goal

-- The lines of the bits so far stand last.
abbrev pub invariant-loop-offset : goal.invariant-loop-offset
invariant-loop-offset l = record {
  kept : take (length l.initial.out) l.out ≡ l.initial.out;
  text : l.out ≡ l.initial.out ++ flat_map (term_line l.way.plain l.way.top (record { net = l.net.id; dir = l.dir })) (range_with_len 0 l.offset);
}
