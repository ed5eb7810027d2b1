use Rattle.std.proofs.Common.{arith}
use Rattle.std.proofs.lemmas.Result.{err_from_is_err_and}
use Rattle.vlog_elab.proofs.Walking.{more-items, fails-items}
use Rattle.vlog_elab.proofs.modules.add_modules.Goals as goal

pub returns-in_err-add_module : goal.returns-in_err-add_module
returns-in_err-add_module c =
    let p = err_from_is_err_and c.from_residual.result c.from_residual.ensures.1 in
    rw (p.1, p.2) (fails-items c.args.modules.now c.loop-m.m-index c.m-item.result (omega arith) c.m-item.is c.loop-m.invariant c.in_err-add_module.ensures)

pub loop-m-preserved : goal.loop-m-preserved
loop-m-preserved c = more-items c.args.modules.now c.loop-m.m-index c.m-item.result (omega arith) c.m-item.is c.loop-m.invariant c.in_ok-add_module.ensures
