-- How the calls of a desk answer, and what they change. Want of memory is free.
use Rattle.std.specs.Prelude.{◌≡◌, ◌<◌, ℕ, [], ◌∷◌, ◌++◌, length, Some, Result, Ok, Err}
use Rattle.emh_base.specs.declared.state.State.{State}
use Rattle.emh_base.specs.declared.edit.By.TheVariants.{User}
use Rattle.emh_base.specs.declared.edit.Change.{Change}
use Rattle.edit_rules.specs.declared.judged.Judged.{Judged}
use Rattle.edit_rules.specs.declared.judged.Judged.TheVariants as judged
use Rattle.edit_rules.specs.Apply.{Applied, Refused, Done}
use Rattle.desk.specs.declared.answers.FirstFault.{FirstFault}
use Rattle.desk.specs.declared.answers.FirstFault.TheVariants as first
use Rattle.desk.specs.declared.answers.Denied.{Denied}
use Rattle.desk.specs.declared.answers.Denied.TheVariants as denied
use Rattle.desk.specs.Desk.{DeskView, closed, room_of}

abbrev pub first_fault_of : Judged → FirstFault
first_fault_of (judged.Rule refusal) = first.Rule refusal
first_fault_of judged.NoMemory = first.NoMemory

abbrev pub denied_of : Judged → Denied
denied_of (judged.Rule refusal) = denied.Rule refusal
denied_of judged.NoMemory = denied.NoMemory

-- a desk on which a command begins that has led to a state by one change of the user
abbrev pub begun : ℕ → State → Change → DeskView → DeskView
begun budget now c d = record d {
  state = now;
  base = Some d.state;
  journal = c ∷ [];
  asked = 1;
  budget = budget;
  speaker = User;
}

-- the user's edit is done and a command is open, or it is refused as the definition says; all is
-- then as before
abbrev pub AnswersFirst : Applied → ℕ → DeskView → Result (Unit {0}) FirstFault → DeskView → Type 0
AnswersFirst effect budget old (Ok done) new =
    (now : State) × (c : Change) × (effect ≡ Done now c) × (new ≡ begun budget now c old)
AnswersFirst effect budget old (Err (first.Rule refusal)) new =
    (effect ≡ Refused refusal) × (new ≡ old)
AnswersFirst effect budget old (Err first.NoMemory) new = new ≡ old

-- a desk after one change more
abbrev pub added : State → Change → DeskView → DeskView
added now c d = record d { state = now; journal = d.journal ++ c ∷ [] }

-- An edit is done while the journal has room for its change. It is refused where a rule is broken,
-- and where none is broken and the journal is full. After each refusal all is as before.
abbrev pub AnswersApply : Applied → DeskView → Result (Unit {0}) Denied → DeskView → Type 0
AnswersApply effect old (Ok done) new =
    (now : State) × (c : Change) × (effect ≡ Done now c) × (length old.journal < room_of old)
    × (new ≡ added now c old)
AnswersApply effect old (Err (denied.Rule refusal)) new = (effect ≡ Refused refusal) × (new ≡ old)
AnswersApply effect old (Err (denied.BudgetSpent budget)) new =
    (now : State) × (c : Change) × (effect ≡ Done now c) × (length old.journal ≡ room_of old)
    × (budget ≡ old.budget) × (new ≡ old)
AnswersApply effect old (Err denied.NoMemory) new = new ≡ old

-- a command ends: the state before it is the newest of those before, and there are none to go forth
-- to
pub record Keeps (old new : DeskView) : Type 0 where
  pub base : State
  pub was : old.base ≡ Some base
  pub same : new ≡ record (closed old) { past = old.past ++ base ∷ []; future = [] }

-- a command is dropped: the state before it stands again
pub record Drops (old new : DeskView) : Type 0 where
  pub base : State
  pub was : old.base ≡ Some base
  pub same : new ≡ record (closed old) { state = base }

-- back to the newest of the states before
pub record GoesBack (old new : DeskView) : Type 0 where
  pub past : old.past ≡ new.past ++ new.state ∷ []
  pub same :
      new ≡ record old { state = new.state; past = new.past; future = old.future ++ old.state ∷ [] }

-- forth again to the state that was gone back from last
pub record GoesForth (old new : DeskView) : Type 0 where
  pub future : old.future ≡ new.future ++ new.state ∷ []
  pub same :
      new ≡ record old { state = new.state; past = old.past ++ old.state ∷ []; future = new.future }
