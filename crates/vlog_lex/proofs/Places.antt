-- The first place where a test holds: it is one, and there is one unless the test holds nowhere.
use Rattle.std.proofs.Common.{◌≡◌, sym, ◌∙◌, ap, subst, ℕ, zero, suc, ◌+◌, ◌≤◌, Bool, true, false, not, List, length, arith, inl, inr, ◌⊎◌}
use Rattle.std.proofs.lemmas.Bool.{cases_lt, cases_eq, cases_Bool, both_ways}
use Rattle.std.proofs.lemmas.List.{get_or_past}
use Rattle.vlog_lex.specs.Place.{IsFirst, HoldsNowhere, IsRun, stops}

-- no two places are the first
pub first_once : (test : ℕ → Bool) (a b c : ℕ) → IsFirst test a b → IsFirst test a c → b ≡ c
first_once test a b c some other =
    elim (cases_lt b c) [
      | inl below ↦ absurd (both_ways (test b) (other.before b some.from below) some.here)
      | inr least ↦ elim (cases_lt c b) [
        | inl above ↦ absurd (both_ways (test c) (some.before c other.from above) other.here)
        | inr most ↦ omega arith
      ]
    ]

-- the first place is no later than any other
pub first_within : (test : ℕ → Bool) (a b n : ℕ) → IsFirst test a b → a ≤ n → test n ≡ true → b ≤ n
first_within test a b n first from holds =
    elim (cases_lt n b) [
      | inl below ↦ absurd (both_ways (test n) (first.before n from below) holds)
      | inr most ↦ most
    ]

-- where the test fails at a, what holds from the next place on holds from a on
later : (test : ℕ → Bool) (a b : ℕ) → test a ≡ false → IsFirst test (a + 1) b → IsFirst test a b
later test a b fails first = record {
  from = omega (arith, first.from);
  before = λ k least below. elim (cases_eq k a) [
    | inl same ↦ subst (λ j. test j ≡ false) (sym same) fails
    | inr other ↦ first.before k (omega arith) below
  ];
  here = first.here;
}

here : (test : ℕ → Bool) (a : ℕ) → test a ≡ true → IsFirst test a a
here test a holds = record { from = omega arith; before = λ k least below. absurd (omega arith); here = holds }

-- there is a first place where the test holds at some place
pub first_there : (test : ℕ → Bool) (fuel a : ℕ) → test (a + fuel) ≡ true → (b : ℕ) × IsFirst test a b
first_there test zero a holds = let same : a + 0 ≡ a = omega arith in (a, here test a (rw (← same) holds))
first_there test (suc fuel) a holds =
    elim (cases_Bool (test a)) [
      | inl now ↦ (a, here test a now)
      | inr fails ↦
          let same : a + suc fuel ≡ (a + 1) + fuel = omega arith in
          let (b, first) = first_there test fuel (a + 1) (rw (← same) holds) in
          (b, later test a b fails first)
    ]

-- there is a first place, or none at all
pub first_or_nowhere : (test : ℕ → Bool) (fuel a : ℕ) → ((k : ℕ) → a + fuel ≤ k → test k ≡ false)
    → ((b : ℕ) × IsFirst test a b) ⊎ HoldsNowhere test a
first_or_nowhere test zero a past = inr (λ k least. past k (omega arith))
first_or_nowhere test (suc fuel) a past =
    elim (cases_Bool (test a)) [
      | inl now ↦ inl (a, here test a now)
      | inr fails ↦ elim (first_or_nowhere test fuel (a + 1) (λ k least. past k (omega arith))) [
        | inl (b, first) ↦ inl (b, later test a b fails first)
        | inr none ↦ inr (λ k least. elim (cases_eq k a) [
          | inl same ↦ subst (λ j. test j ≡ false) (sym same) fails
          | inr other ↦ none k (omega arith)
        ])
      ]
    ]

-- runs of a class that has no byte 0 end within the bytes, and there is one from each place on
pub stops_past : (class : ℕ → Bool) (bytes : List ℕ) (k : ℕ) → class 0 ≡ false → length bytes ≤ k
    → stops class bytes k ≡ true
stops_past class bytes k nothing past = ap (λ byte. not (class byte)) (get_or_past bytes k 0 past) ∙ ap not nothing

pub run_there : (class : ℕ → Bool) (bytes : List ℕ) (a : ℕ) → class 0 ≡ false → (b : ℕ) × IsRun class bytes a b
run_there class bytes a nothing =
    first_there (stops class bytes) (length bytes) a (stops_past class bytes (a + length bytes) nothing (omega arith))

pub run_within : (class : ℕ → Bool) (bytes : List ℕ) (a b : ℕ) → class 0 ≡ false → IsRun class bytes a b
    → a ≤ length bytes → b ≤ length bytes
run_within class bytes a b nothing run from =
    first_within (stops class bytes) a b (length bytes) run from
    (stops_past class bytes (length bytes) nothing (omega arith))
