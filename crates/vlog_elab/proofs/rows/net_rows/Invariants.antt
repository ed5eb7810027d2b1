use Rattle.std.proofs.Common.{◌≡◌, take}
use Rattle.vlog_elab.specs.Named.{numbered}
use Rattle.vlog_elab.specs.Table.{net_row}
use Rattle.vlog_elab.proofs.rows.net_rows.Given as goal

abbrev pub invariant-loop-place : goal.invariant-loop-place
invariant-loop-place l = l.rows ≡ numbered net_row 0 (take l.place l.nets)
