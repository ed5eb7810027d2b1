-- Journals of reactions lead to their states.
use Rattle.std.proofs.Common.{◌≡◌, ℕ, zero, suc, ◌+◌, ◌==◌, ◌≤◌, Bool, true, false, cond, List, [], ◌∷◌, ◌++◌, length, Option, Some, None, refl, sym, ap, ◌∙◌, subst, arith, length-append}
use Rattle.std.proofs.lemmas.Bool.Decides.{nat_tests}
use Rattle.emh_base.specs.declared.state.State.{State}
use Rattle.emh_base.specs.declared.rule.Refusal.{Refusal}
use Rattle.emh_base.specs.declared.edit.By.{By}
use Rattle.emh_base.specs.declared.edit.By.TheVariants.{User, Watch}
use Rattle.emh_base.specs.declared.edit.Change.{Change}
use Rattle.emh_base.specs.declared.edit.Edit.{Edit}
use Rattle.flatten_rules.specs.Check.{first_broken}
use Rattle.edit_rules.specs.Apply.{checks, after, change, Applied, Refused, Done, applied, apply}
use Rattle.session_rules.specs.Take.{Wants, Course, Going, Spent, take_applied, take_one, take}
use Rattle.session_rules.specs.React.{tell_one, tell_from, entry_at, tell_entry, tell, IsRefused, IsSpent, IsDone, outcome, react_applied}
use Rattle.session_rules.specs.Journal.{Leads}
use Rattle.session_rules.specs.Law.{ReactionsLead, CommandsLead}

-- a change of a state that is done names its edit and who asked for it
pub done-by : (S T : State) (by : By) (e : Edit) (c : Change) → apply S by e ≡ Done T c → apply S c.by c.edit ≡ Done T c
done-by S T by e c is = by_cases (first_broken (checks S e)) refl
  where
    by_cases : (o : Option Refusal) → first_broken (checks S e) ≡ o → apply S c.by c.edit ≡ Done T c
    by_cases None none =
        let here : Done (after S e) (change S by e) ≡ Done T c = sym (ap (applied S by e) none) ∙ is in
        let same : change S by e ≡ c = cc in
        subst (λ (x : Change). apply S x.by x.edit ≡ Done T c) same is
    by_cases (Some refusal) some =
        let never : Refused refusal ≡ Done T c = sym (ap (applied S by e) some) ∙ is in
        absurd (cc)

-- one change more
pub leads-push : (S T U : State) (J : List Change) (c : Change) → Leads S J T → apply T c.by c.edit ≡ Done U c → Leads S (J ++ c ∷ []) U
leads-push S T U [] c leads is = (U, subst (λ (x : State). apply x c.by c.edit ≡ Done U c) (sym leads) is, refl)
leads-push S T U (d ∷ J) c leads is = (leads.0, leads.1, leads-push leads.0 T U J c leads.2 is)

-- where a course goes on, its journal leads from the base to its state, within the room
abbrev pub IsLed : ℕ → State → Course → Type 0
IsLed room base (Going S J) = Leads base J S × (length J ≤ room)
IsLed room base (Spent S J) = Unit {0}

module _ (room : ℕ) (base : State) where
  led-take_applied : (S : State) (J : List Change) (by : By) (e : Edit) (a : Applied) → apply S by e ≡ a → Leads base J S → length J ≤ room → IsLed room base (take_applied room S J a)
  led-take_applied S J by e (Refused refusal) is leads few = (leads, few)
  led-take_applied S J by e (Done T c) is leads few = by_test (length J == room) refl
    where
      by_test : (b : Bool) → b ≡ (length J == room) → IsLed room base (cond b (Spent S J) (Going T (J ++ c ∷ [])))
      by_test true at = tt
      by_test false at =
          let all : length (J ++ c ∷ []) ≡ length J + 1 = omega (arith, length-append J (c ∷ [])) in
          (leads-push base S T J c leads (done-by S T by e c is), grind (arith, nat_tests))

  led-one : (by : By) (at : Course) (e : Edit) → IsLed room base at → IsLed room base (take_one room by e at)
  led-one by (Spent S J) e led = tt
  led-one by (Going S J) e led = led-take_applied S J by e (apply S by e) refl led.0 led.1

  led-take : (by : By) (es : List Edit) (at : Course) → IsLed room base at → IsLed room base (take room by es at)
  led-take by [] at led = led
  led-take by (e ∷ es) at led = led-take by es (take_one room by e at) (led-one by at e led)

  led-tell_one : (i : ℕ) (c : Change) (w : Wants) (mark : Bool) (at : Course) → IsLed room base at → IsLed room base (tell_one room i c w mark at)
  led-tell_one i c w false (Going S J) led = led
  led-tell_one i c w true (Going S J) led = led-take (Watch i) (w S c) (Going S J) led
  led-tell_one i c w false (Spent S J) led = tt
  led-tell_one i c w true (Spent S J) led = tt

  led-tell_from : (c : Change) (ws : List Wants) (marks : List Bool) (i : ℕ) (at : Course) → IsLed room base at → IsLed room base (tell_from room i c ws marks at)
  led-tell_from c [] marks i at led = led
  led-tell_from c (w ∷ ws) [] i at led = led
  led-tell_from c (w ∷ ws) (mark ∷ marks) i at led = led-tell_from c ws marks (i + 1) (tell_one room i c w mark at) (led-tell_one i c w mark at led)

  led-entry : (ws : List Wants) (marks : List Bool) (c : Option Change) (at : Course) → IsLed room base at → IsLed room base (tell_entry room ws marks c at)
  led-entry ws marks None at led = led
  led-entry ws marks (Some c) at led = led-tell_from c ws marks 0 at led

  pub led-tell : (ws : List Wants) (marks : List Bool) (entries k : ℕ) (at : Course) → IsLed room base at → IsLed room base (tell room ws marks entries k at)
  led-tell ws marks zero k at led = led
  led-tell ws marks (suc entries) k at led = led-tell ws marks entries (k + 1) (tell_entry room ws marks (entry_at k at) at) (led-entry ws marks (entry_at k at) at led)

  led-outcome : (at : Course) (T : State) (J : List Change) → IsLed room base at → outcome at ≡ IsDone T J → Leads base J T × (length J ≤ room)
  led-outcome (Going S K) T J led is =
      let state : S ≡ T = cc in
      let journal : K ≡ J = cc in
      (subst (λ (x : State). Leads base J x) state (subst (λ (x : List Change). Leads base x S) journal led.0), subst (λ (x : List Change). length x ≤ room) journal led.1)
  led-outcome (Spent S K) T J led is = let never : IsSpent ≡ IsDone T J = is in absurd (cc)

pub reactions-lead : ReactionsLead
reactions-lead ws marks budget S now T J all leads is =
    led-outcome (budget + length J) S (tell (budget + length J) ws marks (budget + length J) 0 (Going now J)) T all
    (led-tell (budget + length J) S ws marks (budget + length J) 0 (Going now J) (leads, omega arith)) is

pub commands-lead : CommandsLead
commands-lead ws marks budget S T e J is = by_applied (apply S User e) refl is
  where
    by_applied : (a : Applied) → apply S User e ≡ a → react_applied ws marks budget a ≡ IsDone T J → Leads S J T × (length J ≤ budget + 1)
    by_applied (Refused refusal) at done = let never : IsRefused refusal ≡ IsDone T J = done in absurd (cc)
    by_applied (Done now c) at done = reactions-lead ws marks budget S now T (c ∷ []) J (now, done-by S now User e c at, refl) done
