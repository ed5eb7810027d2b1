-- The edits of an answer leave the state that they leave without a journal.
use Rattle.std.proofs.Common.{◌≡◌, ℕ, ◌==◌, Bool, true, false, cond, List, [], ◌∷◌, ◌++◌, length, Option, Some, None, Ok, sym}
use Rattle.emh_base.specs.declared.state.State.{State}
use Rattle.emh_base.specs.declared.rule.Refusal.{Refusal}
use Rattle.emh_base.specs.declared.edit.By.{By}
use Rattle.emh_base.specs.declared.edit.Change.{Change}
use Rattle.emh_base.specs.declared.edit.Edit.{Edit}
use Rattle.flatten_rules.specs.Check.{first_broken}
use Rattle.edit_rules.specs.Apply.{checks, after, change, applied}
use Rattle.session_rules.specs.Take as rules
use Rattle.session_rules.specs.Take.{Course, Going, Spent, take_applied}
use Rattle.desk.specs.Desk.{DeskView, room_of}
use Rattle.emh_session.specs.Observing.{AnswersChange}
use Rattle.watch_kit.specs.Passed.{unless_refused, all_passed}

module _ (room : ℕ) (by : By) where
  never-going : (es : List Edit) (S T : State) (J K : List Change) → rules.take room by es (Spent S J) ≡ Going T K → ⊥
  never-going [] S T J K is = cc
  never-going (e ∷ es) S T J K is = never-going es S T J K is

  by-room : (es : List Edit) (S U T : State) (J K : List Change) (c : Change) (rest : (L : List Change) → rules.take room by es (Going U L) ≡ Going T K → T ≡ all_passed U es)
      (full : Bool) → rules.take room by es (cond full (Spent S J) (Going U (J ++ c ∷ []))) ≡ Going T K → T ≡ all_passed U es
  by-room es S U T J K c rest true is = absurd (never-going es S T J K is)
  by-room es S U T J K c rest false is = rest (J ++ c ∷ []) is

  by-rule : (e : Edit) (es : List Edit) (S T : State) (J K : List Change) (rest : (U : State) (L : List Change) → rules.take room by es (Going U L) ≡ Going T K → T ≡ all_passed U es)
      (o : Option Refusal) → rules.take room by es (take_applied room S J (applied S by e o)) ≡ Going T K → T ≡ all_passed (unless_refused S e o) es
  by-rule e es S T J K rest (Some refusal) is = rest S J is
  by-rule e es S T J K rest None is = by-room es S (after S e) T J K (change S by e) (rest (after S e)) (length J == room) is

  take-passed : (es : List Edit) (S T : State) (J K : List Change) → rules.take room by es (Going S J) ≡ Going T K → T ≡ all_passed S es
  take-passed [] S T J K is = let same : S ≡ T = cc in sym same
  take-passed (e ∷ es) S T J K is = by-rule e es S T J K (λ U L. take-passed es U T L K) (first_broken (checks S e)) is

pub answers-pass : (es : List Edit) (old new : DeskView) → AnswersChange es old (Ok tt) new → new.state ≡ all_passed old.state es
answers-pass es old new answers = take-passed (room_of old) old.speaker es old.state new.state old.journal new.journal answers.0
