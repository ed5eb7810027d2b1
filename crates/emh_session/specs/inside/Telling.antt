-- What the loop over observers and entries makes of a desk.
use Rattle.std.specs.Prelude.{◌≡◌, ℕ, Bool, List, slice_get, Some, Result, Ok, Err}
use Rattle.emh_base.specs.declared.edit.Change.{Change}
use Rattle.session_rules.specs.Take.{Wants, Course, Going, Spent}
use Rattle.session_rules.specs.React.{tell_one, tell_from, tell}
use Rattle.desk.specs.Desk.{DeskView, room_of}
use Rattle.emh_session.specs.declared.answers.Halt.{Halt}
use Rattle.emh_session.specs.declared.answers.Halt.TheVariants.{BudgetSpent, NoMemory}
use Rattle.emh_session.specs.Observing.{course_of}

-- the desk stands where a course does; nothing is said where memory is missing
abbrev pub Follows : Course → Result (Unit {0}) Halt → DeskView → Type 0
Follows at (Ok done) new = at ≡ Going new.state new.journal
Follows at (Err BudgetSpent) new = at ≡ Spent new.state new.journal
Follows at (Err NoMemory) new = Unit {0}

-- the command that is open stays the same one
abbrev pub IsSameCommand : DeskView → DeskView → Type 0
IsSameCommand old new =
    new ≡ record old { state = new.state; journal = new.journal; speaker = new.speaker }

-- an entry of the journal is told as a definition says of its change
pub record Tells
    (told : Change → Course → Course) (entry : ℕ) (old : DeskView) (result : Result (Unit {0}) Halt)
    (new : DeskView) : Type 0 where
  pub change : Change
  pub there : slice_get old.journal entry ≡ Some change
  pub follows : Follows (told change (course_of old)) result new
  pub same : IsSameCommand old new

-- to one observer,
abbrev pub TellsOne : Wants → Bool → ℕ → ℕ → DeskView → Result (Unit {0}) Halt → DeskView → Type 0
TellsOne w enabled who entry old result new =
    Tells (λ c at. tell_one (room_of old) who c w enabled at) entry old result new

-- and to all in order
abbrev pub TellsEntry :
    List Wants → List Bool → ℕ → DeskView → Result (Unit {0}) Halt → DeskView → Type 0
TellsEntry ws marks entry old result new =
    Tells (λ c at. tell_from (room_of old) 0 c ws marks at) entry old result new

-- each entry of the journal is told to all
pub record TellsAll
    (ws : List Wants) (marks : List Bool) (old : DeskView) (result : Result (Unit {0}) Halt)
    (new : DeskView) : Type 0 where
  pub follows : Follows (tell (room_of old) ws marks (room_of old) 0 (course_of old)) result new
  pub same : IsSameCommand old new
