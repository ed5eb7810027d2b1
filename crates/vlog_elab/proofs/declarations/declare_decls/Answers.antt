use Rattle.std.proofs.Common.{arith}
use Rattle.std.proofs.lemmas.Result.{err_from_is_err_and}
use Rattle.vlog_elab.specs.Interfaces.{decl_places}
use Rattle.vlog_elab.proofs.Walking.{more-flat, fails-flat}
use Rattle.vlog_elab.proofs.declarations.declare_decls.Goals as goal

pub returns-in_err-declare : goal.returns-in_err-declare
returns-in_err-declare c =
    let p = err_from_is_err_and c.from_residual.result c.from_residual.ensures.1 in
    rw (p.1, p.2) (fails-flat decl_places c.args.decls.now c.loop-decl.decl-index c.decl-item.result (omega arith) c.decl-item.is c.loop-decl.invariant c.in_err-declare.ensures)

pub loop-decl-preserved : goal.loop-decl-preserved
loop-decl-preserved c = more-flat decl_places c.args.decls.now c.loop-decl.decl-index c.decl-item.result (omega arith) c.decl-item.is c.loop-decl.invariant c.in_ok-declare.ensures
