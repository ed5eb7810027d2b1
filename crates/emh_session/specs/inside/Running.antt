-- What a command makes of a desk on which none is open.
use Rattle.std.specs.Prelude.{◌≡◌, ℕ, ◌+◌, List, [], ◌∷◌, ◌++◌, length, Result, Ok, Err}
use Rattle.emh_base.specs.declared.state.State.{State}
use Rattle.emh_base.specs.declared.edit.Change.{Change}
use Rattle.session_rules.specs.React.{Reaction, IsRefused, IsSpent, IsDone}
use Rattle.desk.specs.Desk.{DeskView}
use Rattle.emh_session.specs.declared.answers.Halt.{Halt}
use Rattle.emh_session.specs.declared.answers.Halt.TheVariants as halt
use Rattle.emh_session.specs.declared.answers.Accepted.{Accepted}
use Rattle.emh_session.specs.declared.answers.CommandFault.{CommandFault}
use Rattle.emh_session.specs.declared.answers.CommandFault.TheVariants.{Rule, BudgetSpent, NoMemory}

-- what is answered where an observer stopped
abbrev pub halted : ℕ → Halt → CommandFault
halted budget halt.BudgetSpent = BudgetSpent budget
halted budget halt.NoMemory = NoMemory

-- it is a step as the session takes it, of the desk alone
abbrev pub RunsCommand : Reaction → ℕ → DeskView → Result Accepted CommandFault → DeskView → Type 0
RunsCommand reaction budget old (Ok accepted) new =
    (now : State) × (journal : List Change) × (reaction ≡ IsDone now journal)
    × (accepted.observer_edits + 1 ≡ length journal)
    × (new ≡ record old { state = now; past = old.past ++ old.state ∷ []; future = [] })
RunsCommand reaction budget old (Err (Rule refusal)) new =
    (reaction ≡ IsRefused refusal) × (new ≡ old)
RunsCommand reaction budget old (Err (BudgetSpent spent)) new =
    (reaction ≡ IsSpent) × (spent ≡ budget) × (new ≡ old)
RunsCommand reaction budget old (Err NoMemory) new = new ≡ old
