use Rattle.std.proofs.Common.{◌≡◌, ◌++◌, take, length}
use Rattle.std.specs.List.{flat_map}
use Rattle.flatten_rules.specs.Domains.{bits_of_net}
use Rattle.reports.specs.Occurrences.{bit_line}
use Rattle.reports.proofs.occurrences.push_bits.Given as goal

-- The lines of the nets so far stand last.
abbrev pub invariant-loop-net : goal.invariant-loop-net
invariant-loop-net l = record {
  kept : take (length l.initial.out) l.out ≡ l.initial.out;
  text : l.out ≡ l.initial.out ++ flat_map (bit_line l.way.plain l.way.top) (flat_map (bits_of_net l.way.path) (take l.net-index l.net-items));
}
