use Rattle.std.proofs.Common.{[], ◌∷◌, Err, subst}
use Rattle.std.proofs.lemmas.Result.{err_from_is_err_and}
use Rattle.emh_base.specs.declared.edit.Edit.{Edit}
use Rattle.emh_session.specs.Observing.{AnswersChange}
use Rattle.emh_session.proofs.Giving.{given-next, given-halt, given-lack}
use Rattle.emh_session.proofs.observer.give_all.Goals as goal

pub returns-in_err-copy : goal.returns-in_err-copy
returns-in_err-copy c =
    let p = err_from_is_err_and c.from_residual.result c.from_residual.ensures.1 in
    rw (p.1, p.2) (given-lack c.args.edits.now c.loop-edit.edit-index c.args.desk.now c.loop-edit.desk c.loop-edit.invariant)

pub returns-in_err-give : goal.returns-in_err-give
returns-in_err-give c =
    let p = err_from_is_err_and c.from_residual-in_err-give.result c.from_residual-in_err-give.ensures.1 in
    let P : Edit → Type 0 = λ e. AnswersChange (e ∷ []) c.loop-edit.desk (Err c.in_err-give.field-0.0) c.give.new.desk in
    rw (p.1, p.2)
    (given-halt c.args.edits.now c.loop-edit.edit-index c.edit-item.result c.loop-edit-test.true c.edit-item.is c.args.desk.now
    c.loop-edit.desk c.loop-edit.invariant _ c.give.new.desk (subst P c.in_ok-copy.ensures c.in_err-give.ensures))

pub loop-edit-preserved : goal.loop-edit-preserved
loop-edit-preserved c =
    given-next c.args.edits.now c.loop-edit.edit-index c.edit-item.result c.loop-edit-test.true c.edit-item.is c.args.desk.now
    c.loop-edit.desk c.loop-edit.invariant c.give.new.desk (rw c.in_ok-copy.ensures at c.in_ok-give.ensures)
