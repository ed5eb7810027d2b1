-- Edits that are given one part after the other.
use Rattle.std.proofs.Common.{◌≡◌, ℕ, zero, suc, ◌+◌, ◌<◌, length, drop, get_or, arith, List, [], ◌∷◌, ◌++◌, take, Result, Ok, Err, refl, sym, ap, subst, ◌∙◌, append_assoc}
use Rattle.emh_base.specs.declared.edit.By.{By}
use Rattle.emh_base.specs.declared.edit.Edit.{Edit}
use Rattle.session_rules.specs.Take as rules
use Rattle.session_rules.specs.Take.{Course, Going, Spent, take_one}
use Rattle.desk.specs.Desk.{DeskView, room_of}
use Rattle.emh_session.specs.declared.answers.Halt.{Halt}
use Rattle.emh_session.specs.declared.answers.Halt.TheVariants.{BudgetSpent, NoMemory}
use Rattle.emh_session.specs.Observing.{course_of, given, ElseStays, AnswersChange}

take-append : (room : ℕ) (by : By) (es fs : List Edit) (at : Course) → rules.take room by (es ++ fs) at ≡ rules.take room by fs (rules.take room by es at)
take-append room by [] fs at = refl
take-append room by (e ∷ es) fs at = take-append room by es fs (take_one room by e at)

take-spent : (room : ℕ) (by : By) (es : List Edit) (d : DeskView) → rules.take room by es (Spent d.state d.journal) ≡ Spent d.state d.journal
take-spent room by [] d = refl
take-spent room by (e ∷ es) d = take-spent room by es d

pub gives-none : (d : DeskView) → AnswersChange [] d (Ok tt) d
gives-none d = (refl, refl)

stays-trans : (old now new : DeskView) → ElseStays old now → ElseStays now new → ElseStays old new
stays-trans old now new first second =
    second ∙ ap (λ (d : DeskView). record d { state = new.state; journal = new.journal }) first

-- what the second part makes of the desk that the first one leaves
gives-on : (es fs : List Edit) (old now : DeskView) → given es old ≡ Going now.state now.journal → ElseStays old now → given (es ++ fs) old ≡ given fs now
gives-on es fs old now made stays =
    let room : room_of now ≡ room_of old = ap room_of stays in
    let by : now.speaker ≡ old.speaker = ap (λ (d : DeskView). d.speaker) stays in
    take-append (room_of old) old.speaker es fs (course_of old)
    ∙ ap (rules.take (room_of old) old.speaker fs) made
    ∙ sym (ap (λ n. rules.take n now.speaker fs (course_of now)) room ∙ ap (λ (b : By). rules.take (room_of old) b fs (course_of now)) by)

pub gives-then : (es fs : List Edit) (old now new : DeskView) (result : Result (Unit {0}) Halt) → AnswersChange es old (Ok tt) now → AnswersChange fs now result new
    → AnswersChange (es ++ fs) old result new
gives-then es fs old now new (Ok done) first second =
    (gives-on es fs old now first.0 first.1 ∙ second.0, stays-trans old now new first.1 second.1)
gives-then es fs old now new (Err BudgetSpent) first second =
    (gives-on es fs old now first.0 first.1 ∙ second.0, stays-trans old now new first.1 second.1)
gives-then es fs old now new (Err NoMemory) first second = (
  es ++ second.0,
  second.1,
  ap (λ (gs : List Edit). es ++ gs) second.2 ∙ sym (append_assoc es second.0 second.1),
  gives-on es second.0 old now first.0 first.1 ∙ second.3,
  stays-trans old now new first.1 second.4,
)

pub gives-halt : (es fs : List Edit) (old new : DeskView) (halt : Halt) → AnswersChange es old (Err halt) new → AnswersChange (es ++ fs) old (Err halt) new
gives-halt es fs old new BudgetSpent answers = (
  take-append (room_of old) old.speaker es fs (course_of old) ∙ ap (rules.take (room_of old) old.speaker fs) answers.0 ∙ take-spent (room_of old) old.speaker fs new,
  answers.1,
)
gives-halt es fs old new NoMemory answers =
    (answers.0, answers.1 ++ fs, ap (λ (gs : List Edit). gs ++ fs) answers.2 ∙ append_assoc answers.0 answers.1 fs, answers.3, answers.4)

-- want of memory before the next edit
pub gives-lack : (es fs : List Edit) (old now : DeskView) → AnswersChange es old (Ok tt) now → AnswersChange (es ++ fs) old (Err NoMemory) now
gives-lack es fs old now answers = (es, fs, refl, answers.0, answers.1)

-- The edits of a list, one after the other.

one-more : (i : ℕ) → suc i + 1 ≡ suc (i + 1)
one-more i = omega arith

split-at : (es : List Edit) (i : ℕ) → take i es ++ drop i es ≡ es
split-at [] zero = refl
split-at [] (suc i) = refl
split-at (e ∷ es) zero = refl
split-at (e ∷ es) (suc i) = ap (λ (fs : List Edit). e ∷ fs) (split-at es i)

take-here : (es : List Edit) (i : ℕ) (e : Edit) → i < length es → e ≡ get_or es i e → take i es ++ e ∷ [] ≡ take (i + 1) es
take-here [] i e less is = absurd (omega (arith, less))
take-here (d ∷ es) zero e less is = ap (λ (c : Edit). c ∷ []) is
take-here (d ∷ es) (suc i) e less is =
    ap (λ (fs : List Edit). d ∷ fs) (take-here es i e (omega (arith, less)) is) ∙ sym (ap (λ n. take n (d ∷ es)) (one-more i))

module _ (es : List Edit) (i : ℕ) (e : Edit) (less : i < length es) (is : e ≡ get_or es i e) (old now : DeskView)
    (below : AnswersChange (take i es) old (Ok tt) now) where
  pub given-next : (new : DeskView) → AnswersChange (e ∷ []) now (Ok tt) new → AnswersChange (take (i + 1) es) old (Ok tt) new
  given-next new answers =
      let P : List Edit → Type 0 = λ fs. AnswersChange fs old (Ok tt) new in
      subst P (take-here es i e less is) (gives-then (take i es) (e ∷ []) old now new (Ok tt) below answers)

  pub given-halt : (halt : Halt) (new : DeskView) → AnswersChange (e ∷ []) now (Err halt) new → AnswersChange es old (Err halt) new
  given-halt halt new answers =
      let P : List Edit → Type 0 = λ fs. AnswersChange fs old (Err halt) new in
      let Q : List Edit → Type 0 = λ fs. AnswersChange (fs ++ drop (i + 1) es) old (Err halt) new in
      subst P (split-at es (i + 1))
      (subst Q (take-here es i e less is)
      (gives-halt (take i es ++ e ∷ []) (drop (i + 1) es) old new halt (gives-then (take i es) (e ∷ []) old now new (Err halt) below answers)))

pub given-lack : (es : List Edit) (i : ℕ) (old now : DeskView) → AnswersChange (take i es) old (Ok tt) now → AnswersChange es old (Err NoMemory) now
given-lack es i old now below =
    let P : List Edit → Type 0 = λ fs. AnswersChange fs old (Err NoMemory) now in
    subst P (split-at es i) (gives-lack (take i es) (drop i es) old now below)
