use Rattle.std.proofs.Common.{◌≡◌, ◌++◌, take, length}
use Rattle.std.specs.List.{flat_map}
use Rattle.reports.specs.Modules.{port_line}
use Rattle.reports.proofs.modules.push_ports.Given as goal

-- The lines so far stand last.
abbrev pub invariant-loop-port : goal.invariant-loop-port
invariant-loop-port l = record {
  kept : take (length l.initial.out) l.out ≡ l.initial.out;
  text : l.out ≡ l.initial.out ++ flat_map (port_line l.holder) (take l.port-index l.port-items);
}
