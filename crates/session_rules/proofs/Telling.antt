-- Each entry of a journal is told, and answers leave what their edits leave.
use Rattle.std.proofs.Common.{◌≡◌, ℕ, zero, suc, ◌+◌, ◌≤◌, Bool, List, length, refl, ap, ◌∙◌, arith}
use Rattle.std.proofs.lemmas.Option.{slice_get_past}
use Rattle.emh_base.specs.declared.state.State.{State}
use Rattle.emh_base.specs.declared.edit.Change.{Change}
use Rattle.session_rules.specs.Take.{Wants, Course, Going, Spent}
use Rattle.session_rules.specs.React.{entry_at, tell_entry, tell}
use Rattle.session_rules.specs.Law.{EachEntryTold}
use Rattle.session_rules.proofs.Leading.{IsLed, led-tell}

module _ (room : ℕ) (ws : List Wants) (marks : List Bool) where
  tell-more : (entries more k : ℕ) (at : Course) → tell room ws marks (entries + more) k at ≡ tell room ws marks more (k + entries) (tell room ws marks entries k at)
  tell-more zero more k at =
      let none : 0 + more ≡ more = omega arith in
      let same : k ≡ k + 0 = omega arith in
      ap (λ n. tell room ws marks n k at) none ∙ ap (λ n. tell room ws marks more n at) same
  tell-more (suc entries) more k at =
      let next : Course = tell_entry room ws marks (entry_at k at) at in
      let sum : suc entries + more ≡ suc (entries + more) = omega arith in
      let same : (k + 1) + entries ≡ k + suc entries = omega arith in
      ap (λ n. tell room ws marks n k at) sum
      ∙ tell-more entries more (k + 1) next
      ∙ ap (λ n. tell room ws marks more n (tell room ws marks entries (k + 1) next)) same

  pub tell-none : (more k : ℕ) (S : State) (J : List Change) → length J ≤ k → tell room ws marks more k (Going S J) ≡ Going S J
  tell-none zero k S J past = refl
  tell-none (suc more) k S J past =
      ap (λ c. tell room ws marks more (k + 1) (tell_entry room ws marks c (Going S J))) (slice_get_past J k past)
      ∙ tell-none more (k + 1) S J (omega (arith, past))

  pub tell-spent : (more k : ℕ) (S : State) (J : List Change) → tell room ws marks more k (Spent S J) ≡ Spent S J
  tell-spent zero k S J = refl
  tell-spent (suc more) k S J = tell-spent more (k + 1) S J

  tell-past : (base : State) (more k : ℕ) (at : Course) → IsLed room base at → room ≤ k → tell room ws marks more k at ≡ at
  tell-past base more k (Going S J) led past = tell-none more k S J (omega (arith, led.1, past))
  tell-past base more k (Spent S J) led past = tell-spent more k S J

pub each-entry-told : EachEntryTold
each-entry-told ws marks budget more S now J leads =
    let room : ℕ = budget + length J in
    let at : Course = Going now J in
    tell-more room ws marks room more 0 at
    ∙ tell-past room ws marks S more (0 + room) (tell room ws marks room 0 at) (led-tell room S ws marks room 0 at (leads, omega arith)) (omega arith)
