use Rattle.std.proofs.Common.{take, Ok}
use Rattle.emh_session.specs.Observing.{AnswersChange}
use Rattle.emh_session.proofs.observer.give_all.Given as goal

abbrev pub invariant-loop-edit : goal.invariant-loop-edit
invariant-loop-edit l = AnswersChange (take l.edit-index l.edits) l.fn.desk (Ok tt) l.desk
