use Rattle.std.proofs.Common.{◌≡◌, ◌++◌, take, length}
use Rattle.std.specs.List.{flat_map}
use Rattle.reports.proofs.Wires.{wire_or_none}
use Rattle.reports.proofs.modules.push_wires.Given as goal

-- The lines so far stand last.
abbrev pub invariant-loop-at : goal.invariant-loop-at
invariant-loop-at l = record {
  kept : take (length l.initial.out) l.out ≡ l.initial.out;
  text : l.out ≡ l.initial.out ++ flat_map (wire_or_none l.holder) (take l.at l.nets);
}
