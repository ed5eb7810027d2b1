-- What observers make of a command. This project's own.
use Rattle.std.specs.Prelude.{ℕ, zero, suc, ◌+◌, Bool, true, false, List, [], ◌∷◌, length, slice_get, Option, Some, None}
use Rattle.emh_base.specs.declared.state.State.{State}
use Rattle.emh_base.specs.declared.rule.Refusal.{Refusal}
use Rattle.emh_base.specs.declared.edit.By.TheVariants.{User, Watch}
use Rattle.emh_base.specs.declared.edit.Change.{Change}
use Rattle.emh_base.specs.declared.edit.Edit.{Edit}
use Rattle.edit_rules.specs.Apply.{Applied, Refused, Done, apply}
use Rattle.session_rules.specs.Take.{Wants, Course, Going, Spent, take}

-- the i-th observer is told of a change, if it is enabled
abbrev pub tell_one : ℕ → ℕ → Change → Wants → Bool → Course → Course
tell_one room i c w enabled (Spent S J) = Spent S J
tell_one room i c w false (Going S J) = Going S J
tell_one room i c w true (Going S J) = take room (Watch i) (w S c) (Going S J)

-- the observers from the i-th on are told of it, in order, each by its mark
abbrev pub tell_from : ℕ → ℕ → Change → List Wants → List Bool → Course → Course
tell_from room i c [] marks at = at
tell_from room i c (w ∷ ws) [] at = at
tell_from room i c (w ∷ ws) (mark ∷ marks) at =
    tell_from room (i + 1) c ws marks (tell_one room i c w mark at)

-- the k-th entry of the journal, while edits are taken
abbrev pub entry_at : ℕ → Course → Option Change
entry_at k (Going S J) = slice_get J k
entry_at k (Spent S J) = None

-- all observers are told of an entry that is there
abbrev pub tell_entry : ℕ → List Wants → List Bool → Option Change → Course → Course
tell_entry room ws marks None at = at
tell_entry room ws marks (Some c) at = tell_from room 0 c ws marks at

-- they are told of so many entries, from the k-th on, those among them that come meanwhile
abbrev pub tell : ℕ → List Wants → List Bool → ℕ → ℕ → Course → Course
tell room ws marks zero k at = at
tell room ws marks (suc entries) k at =
    tell room ws marks entries (k + 1) (tell_entry room ws marks (entry_at k at) at)

-- what came of it: a rule refused the user's edit, the budget was used up, or a state with the
-- journal that led to it
pub data Reaction : Type 0 where
  IsRefused : Refusal → Reaction
  IsSpent : Reaction
  IsDone : State → List Change → Reaction

abbrev pub outcome : Course → Reaction
outcome (Going S J) = IsDone S J
outcome (Spent S J) = IsSpent

-- The reaction to changes of the user, in the state to which they led. Beyond them the journal has
-- room for as many changes of observers as the budget says, so there are no more entries than those
-- to be told of.
abbrev pub react_to : List Wants → List Bool → ℕ → State → List Change → Reaction
react_to ws marks budget S J =
    outcome (tell (budget + length J) ws marks (budget + length J) 0 (Going S J))

abbrev pub react_applied : List Wants → List Bool → ℕ → Applied → Reaction
react_applied ws marks budget (Refused refusal) = IsRefused refusal
react_applied ws marks budget (Done S c) = react_to ws marks budget S (c ∷ [])

-- the reaction to a command, which is one edit of the user
abbrev pub react : List Wants → List Bool → ℕ → State → Edit → Reaction
react ws marks budget S e = react_applied ws marks budget (apply S User e)
