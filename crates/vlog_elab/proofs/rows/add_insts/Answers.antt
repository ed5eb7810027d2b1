use Rattle.std.proofs.Common.{arith, ◌∙◌, ap}
use Rattle.vlog_read.specs.declared.tree.TInst.{TInst}
use Rattle.vlog_elab.specs.Table.{inst_row}
use Rattle.vlog_elab.proofs.Numbering.{rows_after_more}
use Rattle.vlog_elab.proofs.rows.add_insts.Goals as goal

pub loop-inst-preserved : goal.loop-inst-preserved
loop-inst-preserved c =
    rows_after_more (inst_row c.args.interfaces.now c.args.nets.now) (λ (i : TInst). (c.args.master.now, i)) c.args.rows.now c.loop-inst.rows c.push.new.self
    c.args.insts.now c.loop-inst.inst-index c.inst-item.result c.in_ok-row.row
    (omega arith) c.inst-item.is c.loop-inst.invariant (c.in_ok-row.ensures ∙ ap (λ n. inst_row c.args.interfaces.now c.args.nets.now n (c.args.master.now, c.inst-item.result)) c.len.ensures) c.in_ok-push.ensures.ok
