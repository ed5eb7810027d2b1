-- Which parts of the bytes are names.
use Rattle.std.proofs.Common.{◌≡◌, refl, sym, ◌∙◌, ap, ℕ, suc, zero, ◌+◌, ◌-◌, ◌<◌, ◌≤◌, Bool, true, not, List, [], ◌∷◌, length, get_or, drop, take, Some, arith, length-drop, length-take-le, subst, inl, inr, ◌||◌, nat_eq}
use Rattle.std.specs.Prelude.{position, slice_range}
use Rattle.std.specs.List.{list_all}
use Rattle.std.proofs.lemmas.Bool.{and_parts, and_from, both_ways, not-true, not-false, cases_eq}
use Rattle.std.proofs.lemmas.Bool.Decides.{nat_tests}
use Rattle.std.proofs.lemmas.List.{get_or-take, get_or-drop}
use Rattle.std.proofs.lemmas.List.Quantifiers.{position-Some}
use Rattle.emh_base.specs.Name.{is_name_byte, IsName}
use Rattle.vlog_lex.specs.Byte.{is_word_byte, begins_word, is_digit}
use Rattle.vlog_lex.specs.Place.{IsRun}

-- a list each byte of which passes a test
all_from : (test : ℕ → Bool) (bytes : List ℕ) → ((k : ℕ) → k < length bytes → test (get_or bytes k 0) ≡ true)
    → list_all test bytes ≡ true
all_from test [] each = refl
all_from test (byte ∷ bytes) each =
    and_from (test byte) (list_all test bytes) (each 0 (omega arith))
    (all_from test bytes (λ k within. each (suc k) (omega arith)))

-- the bytes from one place to another, each of which may stand in a name
pub range_is_name : (bytes : List ℕ) (a b : ℕ) → a < b → b ≤ a + 1024 → b ≤ length bytes
    → ((k : ℕ) → a ≤ k → k < b → is_name_byte (get_or bytes k 0) ≡ true) → IsName (slice_range bytes a b)
range_is_name bytes a b some few within each =
    let long : length (take (b - a) (drop a bytes)) ≡ b - a =
    length-take-le (b - a) (drop a bytes) (omega (arith, length-drop a bytes)) in
    record {
      some_byte = omega (arith, long);
      within_limit = omega (arith, long);
      printable = all_from is_name_byte (slice_range bytes a b) (λ k below.
          let there : get_or (take (b - a) (drop a bytes)) k 0 ≡ get_or bytes (a + k) 0 =
          get_or-take (b - a) (drop a bytes) k 0 (omega (arith, long, below)) ∙ get_or-drop a bytes k 0 in
          ap is_name_byte there ∙ each (a + k) (omega arith) (omega (arith, long, below)));
    }

-- a run of bytes that may stand in a name
pub run_is_name : (class : ℕ → Bool) (bytes : List ℕ) (a b : ℕ)
    → ((byte : ℕ) → class byte ≡ true → is_name_byte byte ≡ true)
    → IsRun class bytes a b → a < b → b ≤ a + 1024 → b ≤ length bytes → IsName (slice_range bytes a b)
run_is_name class bytes a b fits run some few within =
    range_is_name bytes a b some few within
    (λ k from below. fits (get_or bytes k 0) (not-false (class (get_or bytes k 0)) (run.before k from below)))

-- a run is not empty where its first byte is of the class
pub run_some : (class : ℕ → Bool) (bytes : List ℕ) (a b : ℕ) → IsRun class bytes a b → class (get_or bytes a 0) ≡ true
    → a < b
run_some class bytes a b run has =
    elim (cases_eq a b) [
      | inl same ↦
          let ends : not (class (get_or bytes a 0)) ≡ true =
          subst (λ k. not (class (get_or bytes k 0)) ≡ true) (sym same) run.here in
          absurd (both_ways (class (get_or bytes a 0)) (not-true (class (get_or bytes a 0)) ends) has)
      | inr other ↦ omega (arith, run.from)
    ]

-- the bytes of a word may stand in a name
pub word_fits : (byte : ℕ) → is_word_byte byte ≡ true → is_name_byte byte ≡ true
word_fits byte has = grind (arith, nat_tests)

-- what begins a word may stand in one
pub word_begins : (byte : ℕ) → begins_word byte ≡ true → is_word_byte byte ≡ true
word_begins byte has = ap (λ t. t || is_digit byte || nat_eq byte 36) has
