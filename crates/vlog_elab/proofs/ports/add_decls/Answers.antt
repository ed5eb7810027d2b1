use Rattle.std.proofs.Common.{arith}
use Rattle.std.proofs.lemmas.Result.{err_from_is_err_and}
use Rattle.vlog_read.specs.declared.tree.Decl.{Decl}
use Rattle.vlog_elab.proofs.Walking.{more-flat, fails-flat}
use Rattle.vlog_elab.proofs.ports.add_decls.Goals as goal

pub returns-in_err-add_ports : goal.returns-in_err-add_ports
returns-in_err-add_ports c =
    let p = err_from_is_err_and c.from_residual.result c.from_residual.ensures.1 in
    rw (p.1, p.2) (fails-flat (λ (d : Decl). d.names) c.args.decls.now c.loop-decl.decl-index c.decl-item.result (omega arith) c.decl-item.is c.loop-decl.invariant (rw c.as_slice.ensures at c.in_err-add_ports.ensures))

pub loop-decl-preserved : goal.loop-decl-preserved
loop-decl-preserved c = more-flat (λ (d : Decl). d.names) c.args.decls.now c.loop-decl.decl-index c.decl-item.result (omega arith) c.decl-item.is c.loop-decl.invariant (rw c.as_slice.ensures at c.in_ok-add_ports.ensures)
