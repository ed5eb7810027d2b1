use Rattle.std.proofs.Common.{◌≡◌, map, take}
use Rattle.vlog_elab.specs.Interfaces.{row_port}
use Rattle.vlog_elab.proofs.modules.add_row.Given as goal

abbrev pub invariant-loop-port : goal.invariant-loop-port
invariant-loop-port l = l.ports ≡ map (row_port l.holder) (take l.port-index l.port-items)
