use Rattle.std.proofs.Common.{◌≡◌, map, take}
use Rattle.vlog_elab.specs.Table.{port_row}
use Rattle.vlog_elab.proofs.rows.port_rows.Given as goal

abbrev pub invariant-loop-place : goal.invariant-loop-place
invariant-loop-place l = l.rows ≡ map (port_row l.nets) (take l.place l.ports)
