use Rattle.std.proofs.Common.{take}
use Rattle.vlog_elab.specs.inside.Walk.{Passed}
use Rattle.vlog_elab.specs.inside.Walks.{port_walk}
use Rattle.vlog_elab.proofs.ports.add_ports.Given as goal

abbrev pub invariant-loop-name : goal.invariant-loop-name
invariant-loop-name l = Passed (port_walk l.directions) l.initial.ports (take l.name-index l.names) l.ports
