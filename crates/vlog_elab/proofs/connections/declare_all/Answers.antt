use Rattle.std.proofs.Common.{arith}
use Rattle.std.proofs.lemmas.Result.{err_from_is_err_and}
use Rattle.vlog_elab.specs.Steps.{Declares}
use Rattle.vlog_read.specs.declared.tree.At.{At}
use Rattle.vlog_elab.proofs.Walking.{more-map, fails-map}
use Rattle.vlog_elab.proofs.connections.declare_all.Goals as goal

pub returns-in_err-declare : goal.returns-in_err-declare
returns-in_err-declare c =
    let p = err_from_is_err_and c.from_residual.result c.from_residual.ensures.1 in
    rw (p.1, p.2) (fails-map (λ (n : At). Declares n c.args.range) c.args.names.now c.loop-name.name-index c.name-item.result (omega arith) c.name-item.is c.loop-name.invariant c.in_err-declare.ensures)

pub loop-name-preserved : goal.loop-name-preserved
loop-name-preserved c = more-map (λ (n : At). Declares n c.args.range) c.args.names.now c.loop-name.name-index c.name-item.result (omega arith) c.name-item.is c.loop-name.invariant c.in_ok-declare.ensures
