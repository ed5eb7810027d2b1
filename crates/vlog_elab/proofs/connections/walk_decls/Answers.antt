use Rattle.std.proofs.Common.{arith}
use Rattle.std.proofs.lemmas.Result.{err_from_is_err_and}
use Rattle.vlog_elab.specs.Steps.{decl_steps}
use Rattle.vlog_elab.proofs.Walking.{more-flat, fails-flat}
use Rattle.vlog_elab.proofs.connections.walk_decls.Goals as goal

pub returns-in_err-walk_decl : goal.returns-in_err-walk_decl
returns-in_err-walk_decl c =
    let p = err_from_is_err_and c.from_residual.result c.from_residual.ensures.1 in
    rw (p.1, p.2) (fails-flat decl_steps c.args.decls.now c.loop-decl.decl-index c.decl-item.result (omega arith) c.decl-item.is c.loop-decl.invariant c.in_err-walk_decl.ensures)

pub loop-decl-preserved : goal.loop-decl-preserved
loop-decl-preserved c = more-flat decl_steps c.args.decls.now c.loop-decl.decl-index c.decl-item.result (omega arith) c.decl-item.is c.loop-decl.invariant c.in_ok-walk_decl.ensures
