use Rattle.std.proofs.lemmas.Result.{err_from_is_err_and}
use Rattle.vlog_elab.proofs.Joining.{inner-passes, inner-fails}
use Rattle.vlog_elab.proofs.Mentions.{nets-met}
use Rattle.vlog_elab.proofs.connections.check_module.Goals as goal

pub returns-in_err-walk_module-clause-checks : goal.returns-in_err-walk_module-clause-checks
returns-in_err-walk_module-clause-checks c =
    let p = err_from_is_err_and c.from_residual.result c.from_residual.ensures.1 in
    rw (p.1, p.2) (inner-fails c.args.interfaces.now c.args.m.now c.new-scope.result c.in_err-walk_module.field-0.0 c.new-scope.ensures c.in_err-walk_module.ensures)

pub returns-clause-checks : goal.returns-clause-checks
returns-clause-checks c = inner-passes c.args.interfaces.now c.args.m.now c.new-scope.result c.walk_module.new.scope c.new-scope.ensures c.in_ok-walk_module.ensures

pub returns-clause-nets : goal.returns-clause-nets
returns-clause-nets c = nets-met c.args.interfaces.now c.args.m.now c.new-scope.result c.walk_module.new.scope c.new-scope.ensures c.in_ok-walk_module.ensures
