use Rattle.std.proofs.Common.{arith}
use Rattle.std.proofs.lemmas.Result.{err_from_is_err_and}
use Rattle.vlog_elab.specs.Steps.{inst_steps}
use Rattle.vlog_elab.specs.Named.{named}
use Rattle.vlog_elab.proofs.Walking.{more-flat, fails-flat}
use Rattle.vlog_elab.proofs.connections.walk_insts.Goals as goal

pub returns-in_err-walk_inst : goal.returns-in_err-walk_inst
returns-in_err-walk_inst c =
    let p = err_from_is_err_and c.from_residual.result c.from_residual.ensures.1 in
    rw (p.1, p.2) (fails-flat (inst_steps (named c.args.interfaces.now c.args.master.now.name) c.args.master.now) c.args.insts.now c.loop-inst.inst-index c.inst-item.result (omega arith) c.inst-item.is c.loop-inst.invariant c.in_err-walk_inst.ensures)

pub loop-inst-preserved : goal.loop-inst-preserved
loop-inst-preserved c = more-flat (inst_steps (named c.args.interfaces.now c.args.master.now.name) c.args.master.now) c.args.insts.now c.loop-inst.inst-index c.inst-item.result (omega arith) c.inst-item.is c.loop-inst.invariant c.in_ok-walk_inst.ensures
