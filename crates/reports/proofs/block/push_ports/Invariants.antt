use Rattle.std.proofs.Common.{◌≡◌, ◌++◌, take, length}
use Rattle.std.specs.List.{flat_map}
use Rattle.reports.specs.Block.{term_lines}
use Rattle.reports.proofs.block.push_ports.Given as goal

-- The lines of the ports so far stand last.
abbrev pub invariant-loop-port : goal.invariant-loop-port
invariant-loop-port l = record {
  kept : take (length l.initial.out) l.out ≡ l.initial.out;
  text : l.out ≡ l.initial.out ++ flat_map (term_lines l.way.plain l.way.top) (take l.port-index l.port-items);
}
