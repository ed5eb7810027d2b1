use Rattle.std.proofs.Common.{◌≡◌, ◌++◌, take, length}
use Rattle.std.specs.List.{flat_map, zip}
use Rattle.reports.specs.Modules.{conn_line}
use Rattle.reports.proofs.modules.push_conns.Given as goal

-- The lines so far stand last.
abbrev pub invariant-loop-at : goal.invariant-loop-at
invariant-loop-at l = record {
  kept : take (length l.initial.out) l.out ≡ l.initial.out;
  text : l.out ≡ l.initial.out ++ flat_map (conn_line l.holder l.master) (take l.at (zip l.ports l.conns));
}
