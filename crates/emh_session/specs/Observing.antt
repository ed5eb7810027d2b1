-- What an observer does to a desk when it is told of a change. This project's own.
use Rattle.std.specs.Prelude.{◌≡◌, ℕ, List, ◌++◌, slice_get, Some, Result, Ok, Err}
use Rattle.emh_base.specs.declared.edit.Change.{Change}
use Rattle.emh_base.specs.declared.edit.Edit.{Edit}
use Rattle.session_rules.specs.Take.{Wants, Course, Going, Spent, take}
use Rattle.desk.specs.Desk.{DeskView, room_of}
use Rattle.emh_session.specs.declared.answers.Halt.{Halt}
use Rattle.emh_session.specs.declared.answers.Halt.TheVariants.{BudgetSpent, NoMemory}

-- where the open command of a desk stands
abbrev pub course_of : DeskView → Course
course_of d = Going d.state d.journal

-- what some edits make of it, asked for by whoever speaks
abbrev pub given : List Edit → DeskView → Course
given es d = take (room_of d) d.speaker es (course_of d)

-- only state and journal have changed
abbrev pub ElseStays : DeskView → DeskView → Type 0
ElseStays old new = new ≡ record old { state = new.state; journal = new.journal }

-- The edits are taken, each that no rule refuses, or as many as the budget allows. Where memory is
-- missing, the first of them are.
abbrev pub AnswersChange : List Edit → DeskView → Result (Unit {0}) Halt → DeskView → Type 0
AnswersChange es old (Ok done) new =
    (given es old ≡ Going new.state new.journal) × ElseStays old new
AnswersChange es old (Err BudgetSpent) new =
    (given es old ≡ Spent new.state new.journal) × ElseStays old new
AnswersChange es old (Err NoMemory) new =
    (first : List Edit) × (rest : List Edit) × (es ≡ first ++ rest)
    × (given first old ≡ Going new.state new.journal) × ElseStays old new

-- those that are wanted at an entry of the journal, as the state is when it is told
pub record AnswersEntry
    (wants : Wants) (entry : ℕ) (old : DeskView) (result : Result (Unit {0}) Halt) (new : DeskView)
    : Type 0 where
  pub at :
      (c : Change) → slice_get old.journal entry ≡ Some c
      → AnswersChange (wants old.state c) old result new
