-- What calls of a desk change, from what its fields become.
use Rattle.std.proofs.Common.{◌≡◌, ◌≢◌, ℕ, ◌<◌, ◌≤◌, List, [], ◌∷◌, ◌++◌, length, Option, Some, None, Ok, Err, refl, sym, ap, ap₂, ◌∙◌, arith}
use Rattle.emh_base.specs.declared.state.State.{State}
use Rattle.emh_base.specs.declared.rule.Refusal.{Refusal}
use Rattle.emh_base.specs.declared.edit.By.{By}
use Rattle.emh_base.specs.declared.edit.By.TheVariants.{User}
use Rattle.emh_base.specs.declared.edit.Change.{Change}
use Rattle.emh_base.specs.declared.edit.Edit.{Edit}
use Rattle.flatten_rules.specs.Check.{first_broken}
use Rattle.edit_rules.specs.Apply.{checks, after, change, applied, apply, Refused, Done}
use Rattle.desk.specs.declared.answers.Denied.TheVariants.{BudgetSpent}
use Rattle.desk.specs.Desk.{DeskView, closed, room_of}
use Rattle.desk.specs.Answers.{AnswersFirst, AnswersApply, Keeps, Drops}

-- an edit that is done is done for whoever asks for it
asked-by : (S T : State) (by other : By) (e : Edit) (c : Change) → apply S by e ≡ Done T c → apply S other e ≡ Done T (record c { by = other })
asked-by S T by other e c is = by_cases (first_broken (checks S e)) refl
  where
    by_cases : (o : Option Refusal) → first_broken (checks S e) ≡ o → apply S other e ≡ Done T (record c { by = other })
    by_cases None none =
        let here : Done (after S e) (change S by e) ≡ Done T c = sym (ap (applied S by e) none) ∙ is in
        let state : after S e ≡ T = cc in
        let told : change S by e ≡ c = cc in
        ap (applied S other e) none ∙ ap₂ (λ (U : State) (d : Change). Done U (record d { by = other })) state told
    by_cases (Some refusal) some =
        let never : Refused refusal ≡ Done T c = sym (ap (applied S by e) some) ∙ is in
        absurd (cc)

pub first-done : (d : DeskView) (e : Edit) (budget : ℕ) (T : State) (c : Change) (past future : List State) (base : State) (empty journal : List Change)
    → apply d.state User e ≡ Done T c → past ≡ d.past → future ≡ d.future → base ≡ d.state → empty ≡ d.journal → d.journal ≡ [] → journal ≡ empty ++ c ∷ []
    → AnswersFirst (apply d.state User e) budget d (Ok tt)
    (record { state = T; past = past; future = future; base = Some base; journal = journal; asked = 1; budget = budget; speaker = User })
first-done d e budget T c past future base empty journal is same_past same_future same_base same_journal none joined =
    let one : journal ≡ c ∷ [] = joined ∙ ap (λ (J : List Change). J ++ c ∷ []) (same_journal ∙ none) in
    let some : Some base ≡ Some d.state = ap Some same_base in
    (T, c, is, cc)

pub budget-spent : (d : DeskView) (e : Edit) (budget : ℕ) → first_broken (checks d.state e) ≡ None → length d.journal ≡ room_of d → budget ≡ d.budget
    → AnswersApply (apply d.state d.speaker e) d (Err (BudgetSpent budget)) d
budget-spent d e budget none full same =
    (after d.state e, change d.state d.speaker e, ap (applied d.state d.speaker e) none, full, same, refl)

below : (m n : ℕ) → m ≢ n → m ≤ n → m < n
below m n differ most = omega arith

pub apply-done : (d : DeskView) (e : Edit) (T : State) (c : Change) (room journal : List Change)
    → apply d.state User e ≡ Done T c → length d.journal ≢ room_of d → length d.journal ≤ room_of d → room ≡ d.journal → journal ≡ room ++ record c { by = d.speaker } ∷ []
    → AnswersApply (apply d.state d.speaker e) d (Ok tt) (record d { state = T; journal = journal })
apply-done d e T c room journal is differ most same joined =
    let told : Change = record c { by = d.speaker } in
    (T, told, asked-by d.state T User d.speaker e c is, below (length d.journal) (room_of d) differ most, ap (λ (J : List Change). record d { state = T; journal = J }) (joined ∙ ap (λ (J : List Change). J ++ told ∷ []) same))

pub keeps : (d new : DeskView) (base : State) (left : Option State) (past future : List State) → d.base ≡ Some base → past ≡ d.past ++ base ∷ [] → future ≡ []
    → new ≡ closed (record d { past = past; future = future; base = left }) → Keeps d new
keeps d new base left past future was joined none same = record {
  base = base;
  was = was;
  same = same ∙ ap₂ (λ p f. record (closed d) { past = p; future = f }) joined none;
}

pub drops : (d new : DeskView) (base : State) (left : Option State) → d.base ≡ Some base → new ≡ closed (record d { state = base; base = left }) → Drops d new
drops d new base left was same = record { base = base; was = was; same = same }
