use Rattle.std.proofs.Common.{arith, [], None, false}
use Rattle.vlog_elab.specs.Table.{net_row}
use Rattle.vlog_elab.proofs.Numbering.{rows_more}
use Rattle.vlog_elab.proofs.rows.net_rows.Goals as goal

pub loop-place-preserved : goal.loop-place-preserved
loop-place-preserved c =
    rows_more net_row c.args.nets.now ([], record { range = None; implied = false }) c.loop-place.place c.loop-place.rows c.add_net.new.rows
    (omega arith) c.loop-place.invariant c.in_ok-add_net.ensures
