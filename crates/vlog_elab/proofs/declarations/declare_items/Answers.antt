use Rattle.std.proofs.Common.{arith}
use Rattle.std.proofs.lemmas.Result.{err_from_is_err_and}
use Rattle.vlog_elab.specs.Interfaces.{item_places}
use Rattle.vlog_elab.proofs.Walking.{more-flat, fails-flat}
use Rattle.vlog_elab.proofs.declarations.declare_items.Goals as goal

pub returns-in_err-declare_item : goal.returns-in_err-declare_item
returns-in_err-declare_item c =
    let p = err_from_is_err_and c.from_residual.result c.from_residual.ensures.1 in
    rw (p.1, p.2) (fails-flat item_places c.args.items.now c.loop-item.item-index c.item-item.result (omega arith) c.item-item.is c.loop-item.invariant c.in_err-declare_item.ensures)

pub loop-item-preserved : goal.loop-item-preserved
loop-item-preserved c = more-flat item_places c.args.items.now c.loop-item.item-index c.item-item.result (omega arith) c.item-item.is c.loop-item.invariant c.in_ok-declare_item.ensures
