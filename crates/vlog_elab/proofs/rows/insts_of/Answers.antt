use Rattle.std.proofs.Common.{arith}
use Rattle.vlog_elab.specs.Table.{inst_row, insts_in}
use Rattle.vlog_elab.proofs.Numbering.{rows_flat_more}
use Rattle.vlog_elab.proofs.rows.insts_of.Goals as goal

pub loop-item-preserved : goal.loop-item-preserved
loop-item-preserved c =
    rows_flat_more (inst_row c.args.interfaces.now c.args.nets.now) insts_in c.loop-item.rows c.add_item.new.rows c.as_slice-items.result.now c.loop-item.item-index c.item-item.result
    (omega arith) c.item-item.is c.loop-item.invariant c.in_ok-add_item.ensures
