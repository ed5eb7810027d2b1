use Rattle.std.proofs.Common.{arith}
use Rattle.std.proofs.lemmas.Result.{err_from_is_err_and}
use Rattle.vlog_elab.specs.Steps.{Uses}
use Rattle.vlog_elab.proofs.Walking.{more-map, fails-map}
use Rattle.vlog_elab.proofs.connections.use_parts.Goals as goal

pub returns-in_err-use_part : goal.returns-in_err-use_part
returns-in_err-use_part c =
    let p = err_from_is_err_and c.from_residual.result c.from_residual.ensures.1 in
    rw (p.1, p.2) (fails-map Uses c.args.parts.now c.loop-part.part-index c.part-item.result (omega arith) c.part-item.is c.loop-part.invariant c.in_err-use_part.ensures)

pub loop-part-preserved : goal.loop-part-preserved
loop-part-preserved c = more-map Uses c.args.parts.now c.loop-part.part-index c.part-item.result (omega arith) c.part-item.is c.loop-part.invariant c.in_ok-use_part.ensures
