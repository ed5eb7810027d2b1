-- How the calls of a session answer. Want of memory is free.
use Rattle.std.specs.Prelude.{◌≡◌, ℕ, ◌+◌, Bool, true, false, List, length, Result, Ok, Err}
use Rattle.emh_base.specs.declared.state.State.{State}
use Rattle.emh_base.specs.declared.edit.Change.{Change}
use Rattle.session_rules.specs.React.{Reaction, IsRefused, IsSpent, IsDone}
use Rattle.session_rules.specs.Session.{PlainSession, commanded, has_name, mark}
use Rattle.session_rules.specs.Journal.{KeepsPlacements}
use Rattle.desk.specs.declared.answers.FirstFault.{FirstFault}
use Rattle.desk.specs.declared.answers.FirstFault.TheVariants as first
use Rattle.emh_session.specs.declared.answers.Accepted.{Accepted}
use Rattle.emh_session.specs.declared.answers.CommandFault.{CommandFault}
use Rattle.emh_session.specs.declared.answers.CommandFault.TheVariants.{Rule, BudgetSpent, NoMemory}
use Rattle.emh_session.specs.declared.answers.NoSuchObserver.{NoSuchObserver}

abbrev pub command_fault_of : FirstFault → CommandFault
command_fault_of (first.Rule refusal) = Rule refusal
command_fault_of first.NoMemory = NoMemory

-- A command is the plain session's step, and tells how many changes observers made. It is refused
-- exactly where a rule refuses the user's edit, and answers that the budget is spent exactly where
-- the reaction is; all is then as before.
abbrev pub AnswersCommand :
    Reaction → PlainSession → Result Accepted CommandFault → PlainSession → Type 0
AnswersCommand reaction old (Ok accepted) new =
    (now : State) × (journal : List Change) × (reaction ≡ IsDone now journal)
    × (accepted.observer_edits + 1 ≡ length journal) × (new ≡ commanded old (IsDone now journal))
AnswersCommand reaction old (Err (Rule refusal)) new = (reaction ≡ IsRefused refusal) × (new ≡ old)
AnswersCommand reaction old (Err (BudgetSpent budget)) new =
    (reaction ≡ IsSpent) × (budget ≡ old.budget) × (new ≡ old)
AnswersCommand reaction old (Err NoMemory) new = new ≡ old

-- what survives a command and is placed by no edit of its journal keeps its placement
abbrev pub StaysPlaced : Reaction → State → State → Type 0
StaysPlaced reaction before after =
    (journal : List Change) → reaction ≡ IsDone after journal → KeepsPlacements before journal after

-- the marks of all observers of a name are set, or there is none and all is as before
abbrev pub AnswersMark :
    List ℕ → Bool → List (List ℕ) → PlainSession → Result (Unit {0}) NoSuchObserver → PlainSession
    → Type 0
AnswersMark name on names old (Ok done) new =
    (has_name name names ≡ true) × (new ≡ mark name on names old)
AnswersMark name on names old (Err none) new = (has_name name names ≡ false) × (new ≡ old)
