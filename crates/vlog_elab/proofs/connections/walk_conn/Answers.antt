use Rattle.std.proofs.lemmas.Result.{err_from_is_err_and}
use Rattle.vlog_elab.proofs.Joining.{uses-fail, conn-gives}
use Rattle.vlog_elab.proofs.connections.walk_conn.Goals as goal

pub returns-in_err-use_parts-clause-walk : goal.returns-in_err-use_parts-clause-walk
returns-in_err-use_parts-clause-walk c =
    let p = err_from_is_err_and c.from_residual-in_err-use_parts.result c.from_residual-in_err-use_parts.ensures.1 in
    rw (p.1, p.2) (uses-fail c.args.scope.now c.args.ports.now c.args.inst.now c.args.before.now c.args.conn.now c.in_err-use_parts.field-0.0
    c.in_ok-place.ensures.checks (rw c.as_slice.ensures at c.in_err-use_parts.ensures))

pub returns-clause-walk : goal.returns-clause-walk
returns-clause-walk c =
    conn-gives c.args.scope.now c.use_parts.new.scope c.use_parts.new.scope c.args.ports.now c.args.inst.now c.args.before.now c.args.conn.now c.fit.result
    c.in_ok-place.ensures.checks (rw c.as_slice.ensures at c.in_ok-use_parts.ensures) c.fit.ensures
