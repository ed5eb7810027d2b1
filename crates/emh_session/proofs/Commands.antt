-- Commands, from the calls of a desk.
use Rattle.std.proofs.Common.{◌≡◌, ℕ, ◌+◌, Bool, List, [], ◌∷◌, length, ◌≤◌, append-nil, Some, None, Result, Ok, Err, refl, sym, ap, subst, ◌∙◌}
use Rattle.emh_base.specs.declared.edit.Change.{Change}
use Rattle.edit_rules.specs.Apply.{Applied}
use Rattle.session_rules.specs.Take.{Wants, Going}
use Rattle.session_rules.specs.React.{Reaction, outcome, react_applied}
use Rattle.session_rules.specs.Session.{PlainSession}
use Rattle.desk.specs.declared.answers.FirstFault.{FirstFault}
use Rattle.desk.specs.declared.answers.FirstFault.TheVariants as first
use Rattle.desk.specs.Desk.{DeskView, IsClosed}
use Rattle.desk.specs.Answers.{begun, AnswersFirst, Keeps, Drops}
use Rattle.emh_session.specs.declared.answers.Halt.{Halt}
use Rattle.emh_session.specs.declared.answers.Halt.TheVariants as halt
use Rattle.emh_session.specs.declared.answers.Accepted.{Accepted}
use Rattle.emh_session.specs.declared.answers.CommandFault.{CommandFault}
use Rattle.emh_session.specs.declared.answers.CommandFault.TheVariants.{Rule, BudgetSpent, NoMemory}
use Rattle.emh_session.specs.inside.Telling.{TellsAll}
use Rattle.emh_session.proofs.Growing.{begins-tell, begins-long}
use Rattle.emh_session.specs.Answers.{command_fault_of, AnswersCommand}
use Rattle.emh_session.specs.inside.Running.{halted, RunsCommand}

pub run-refused : (ws : List Wants) (marks : List Bool) (budget : ℕ) (a : Applied) (old new : DeskView) (fault : FirstFault)
    → AnswersFirst a budget old (Err fault) new → RunsCommand (react_applied ws marks budget a) budget old (Err (command_fault_of fault)) new
run-refused ws marks budget a old new (first.Rule refusal) answers = (ap (react_applied ws marks budget) answers.0, answers.1)
run-refused ws marks budget a old new first.NoMemory answers = answers

module _ (ws : List Wants) (marks : List Bool) (budget : ℕ) (a : Applied) (old start told : DeskView) (closed : IsClosed old)
    (begins : AnswersFirst a budget old (Ok tt) start) where
  of_begun : (result : Result (Unit {0}) Halt) → TellsAll ws marks start result told → TellsAll ws marks (begun budget begins.0 begins.1 old) result told
  of_begun result tells = let P : DeskView → Type 0 = λ d. TellsAll ws marks d result told in subst P begins.3 tells

  -- the journal of a command has the user's change at least
  pub not-empty : TellsAll ws marks start (Ok tt) told → 1 ≤ length told.journal
  not-empty tells =
      let t = of_begun (Ok tt) tells in
      let J : List Change = begins.1 ∷ [] in
      begins-long J _ told.state told.journal
      (begins-tell (budget + 1) J ws marks (budget + 1) 0 (Going begins.0 J) ([], sym (append-nil J))) t.follows

  pub run-done : (new : DeskView) (edits : ℕ) → TellsAll ws marks start (Ok tt) told → Keeps told new → edits + 1 ≡ length told.journal
      → RunsCommand (react_applied ws marks budget a) budget old (Ok (record { observer_edits = edits })) new
  run-done new edits tells keeps counted =
      let t = of_begun (Ok tt) tells in
      let past : told.past ≡ old.past = ap (λ (d : DeskView). d.past) t.same in
      let base : keeps.base ≡ old.state =
      let at : Some keeps.base ≡ Some old.state = sym keeps.was ∙ ap (λ (d : DeskView). d.base) t.same in cc in
      let none : old.base ≡ None = closed.base in
      let journal : old.journal ≡ [] = closed.journal in
      let asked : old.asked ≡ 0 = closed.asked in
      let small : old.budget ≡ 0 = closed.budget in
      let speaker = closed.speaker in
      let kept = keeps.same in
      (told.state, told.journal, ap (react_applied ws marks budget) begins.2 ∙ ap outcome t.follows, counted, cc)

  dropped : (halt : Halt) (new : DeskView) → TellsAll ws marks start (Err halt) told → Drops told new → new ≡ old
  dropped halt new tells drops =
      let t = of_begun (Err halt) tells in
      let past : told.past ≡ old.past = ap (λ (d : DeskView). d.past) t.same in
      let future : told.future ≡ old.future = ap (λ (d : DeskView). d.future) t.same in
      let base : drops.base ≡ old.state =
      let at : Some drops.base ≡ Some old.state = sym drops.was ∙ ap (λ (d : DeskView). d.base) t.same in cc in
      let none : old.base ≡ None = closed.base in
      let journal : old.journal ≡ [] = closed.journal in
      let asked : old.asked ≡ 0 = closed.asked in
      let small : old.budget ≡ 0 = closed.budget in
      let speaker = closed.speaker in
      let back = drops.same in
      let whole : new ≡ record old {
        state = old.state;
        past = old.past;
        future = old.future;
        base = old.base;
        journal = old.journal;
        asked = old.asked;
        budget = old.budget;
        speaker = old.speaker;
      } = cc in
      whole

  pub run-dropped : (halt : Halt) (new : DeskView) → TellsAll ws marks start (Err halt) told → Drops told new
      → RunsCommand (react_applied ws marks budget a) budget old (Err (halted budget halt)) new
  run-dropped halt.BudgetSpent new tells drops =
      (ap (react_applied ws marks budget) begins.2 ∙ ap outcome (of_begun (Err halt.BudgetSpent) tells).follows, refl, dropped halt.BudgetSpent new tells drops)
  run-dropped halt.NoMemory new tells drops = dropped halt.NoMemory new tells drops

-- Sessions.

abbrev pub session_of : List Bool → ℕ → DeskView → PlainSession
session_of enabled budget d = record { past = d.past; now = d.state; future = d.future; enabled = enabled; budget = budget }

pub answers-command : (r : Reaction) (enabled : List Bool) (budget : ℕ) (old new : DeskView) (result : Result Accepted CommandFault) → RunsCommand r budget old result new
    → AnswersCommand r (session_of enabled budget old) result (session_of enabled budget new)
answers-command r enabled budget old new (Ok accepted) runs = (runs.0, runs.1, runs.2, runs.3, ap (session_of enabled budget) runs.4)
answers-command r enabled budget old new (Err (Rule refusal)) runs = (runs.0, ap (session_of enabled budget) runs.1)
answers-command r enabled budget old new (Err (BudgetSpent spent)) runs = (runs.0, runs.1, ap (session_of enabled budget) runs.2)
answers-command r enabled budget old new (Err NoMemory) runs = ap (session_of enabled budget) runs

abbrev Closed : DeskView → Type 0
Closed d = IsClosed d

pub stays-closed : (r : Reaction) (budget : ℕ) (old new : DeskView) (result : Result Accepted CommandFault) → IsClosed old → RunsCommand r budget old result new → IsClosed new
stays-closed r budget old new (Ok accepted) closed runs =
    subst Closed (sym runs.4) (record { base = closed.base; journal = closed.journal; asked = closed.asked; budget = closed.budget; speaker = closed.speaker })
stays-closed r budget old new (Err (Rule refusal)) closed runs = subst Closed (sym runs.1) closed
stays-closed r budget old new (Err (BudgetSpent spent)) closed runs = subst Closed (sym runs.2) closed
stays-closed r budget old new (Err NoMemory) closed runs = subst Closed (sym runs) closed
