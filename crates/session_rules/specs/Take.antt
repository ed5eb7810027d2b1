-- What becomes of the edits that an observer answers to a change. This project's own.
use Rattle.std.specs.Prelude.{ℕ, ◌==◌, List, [], ◌∷◌, ◌++◌, length, if◌then◌else◌}
use Rattle.emh_base.specs.declared.state.State.{State}
use Rattle.emh_base.specs.declared.edit.By.{By}
use Rattle.emh_base.specs.declared.edit.Change.{Change}
use Rattle.emh_base.specs.declared.edit.Edit.{Edit}
use Rattle.edit_rules.specs.Apply.{Applied, Refused, Done, apply}

-- what an observer wants: the edits that it answers to a change, in the state in which it is told
-- of it
abbrev pub Wants : Type 0
Wants = State → Change → List Edit

-- a state and the journal that led to it: more edits are taken, or the budget was used up when one
-- came
pub data Course : Type 0 where
  Going : State → List Change → Course
  Spent : State → List Change → Course

-- an edit that is done has its change last in the journal, which has room for so many; a refused
-- one is passed over
abbrev pub take_applied : ℕ → State → List Change → Applied → Course
take_applied room S J (Refused refusal) = Going S J
take_applied room S J (Done T c) = if length J == room then Spent S J else Going T (J ++ c ∷ [])

-- one edit, asked for by someone
abbrev pub take_one : ℕ → By → Edit → Course → Course
take_one room by e (Spent S J) = Spent S J
take_one room by e (Going S J) = take_applied room S J (apply S by e)

-- edits in order, each in the state that those before it leave
abbrev pub take : ℕ → By → List Edit → Course → Course
take room by [] at = at
take room by (e ∷ es) at = take room by es (take_one room by e at)
