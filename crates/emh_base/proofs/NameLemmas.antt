use Rattle.std.proofs.Common.{◌≡◌, ◌↔◌, ℕ, ◌<◌, ◌≤◌, Bool, true, false, not, List, [], ◌∷◌, length, Option, Some, None, Result, Err, position, refl, sym, ap, subst, inl, inr, arith}
use Rattle.std.proofs.lemmas.Bool.{both_ways, cases_lt}
use Rattle.std.specs.List.{list_all, position_or_len}
use Rattle.emh_base.specs.Name.{IsName, is_name_byte}
use Rattle.emh_base.specs.declared.name.NameFault.{NameFault}
use Rattle.emh_base.specs.declared.name.NameFault.TheVariants.{Empty, TooLong, BadByte, NoMemory}

all_fit : (bytes : List ℕ) → length bytes ≤ position_or_len (λ byte. not (is_name_byte byte)) bytes → list_all is_name_byte bytes ≡ true
all_fit [] h = refl
all_fit (byte ∷ bytes) h = grind (arith, all_fit bytes)

-- where no byte is unfit, all fit
pub list_all-from_position : (bytes : List ℕ) → position (λ byte. not (is_name_byte byte)) bytes ≡ None → list_all is_name_byte bytes ≡ true
list_all-from_position bytes none = all_fit bytes (grind arith)

-- bytes that pass the tests of `Name::new` are a name's
pub IsName-from_tests : (bytes : List ℕ) → (bytes ≡ [] → ⊥) → length bytes ≤ 1024 → None ≡ position (λ byte. not (is_name_byte byte)) bytes → IsName bytes
IsName-from_tests [] filled fits none = absurd (filled refl)
IsName-from_tests (byte ∷ bytes) filled fits none = record {
  some_byte = omega arith;
  within_limit = fits;
  printable = list_all-from_position (byte ∷ bytes) (sym none);
}

all_before : (bytes : List ℕ) → list_all is_name_byte bytes ≡ true
    → length bytes ≤ position_or_len (λ byte. not (is_name_byte byte)) bytes
all_before [] h = omega arith
all_before (byte ∷ bytes) h = grind (arith, all_before bytes)

-- what `Name::new` finds wrong with the bytes of a name is no more than want of memory
pub record Refuses (bytes : List ℕ) (result : Result (List ℕ) NameFault) : Type 0 where
  pub empty : (result ≡ Err Empty) ↔ (bytes ≡ [])
  pub too_long : (result ≡ Err TooLong) ↔ (1024 < length bytes)
  pub bad_byte : (at : ℕ) → (result ≡ Err (BadByte at))
      ↔ ((length bytes ≤ 1024) × (position (λ byte. not (is_name_byte byte)) bytes ≡ Some at))

pub name_refused : (bytes : List ℕ) (fault : NameFault) → Refuses bytes (Err fault) → IsName bytes → fault ≡ NoMemory
name_refused bytes NoMemory refuses name = refl
name_refused bytes Empty refuses name =
    absurd (omega (arith, name.some_byte, ap length (refuses.empty.0 refl)))
name_refused bytes TooLong refuses name = absurd (omega (arith, name.within_limit, refuses.too_long.0 refl))
name_refused bytes (BadByte at) refuses name =
    absurd (grind (arith, ((refuses.bad_byte at).0 refl).1, all_before bytes name.printable))

is_bad_byte : Result (List ℕ) NameFault → Bool
is_bad_byte (Err (BadByte at)) = true
is_bad_byte other = false

no_bad_byte : (bytes : List ℕ) (place : Option ℕ) → length bytes ≤ 1024
    → ((at : ℕ) → length bytes ≤ 1024 → place ≡ Some at
    → ◌≡◌ {A = Result (List ℕ) NameFault} (Err NoMemory) (Err (BadByte at)))
    → None ≡ place
unfolding is_bad_byte
no_bad_byte bytes None fits bad = refl
no_bad_byte bytes (Some at) fits bad =
    absurd (both_ways (is_bad_byte (Err (BadByte at))) (ap is_bad_byte (sym (bad at fits refl))) refl)

is_memory : Result (List ℕ) NameFault → Bool
is_memory (Err NoMemory) = true
is_memory other = false

pub name_without_memory : (bytes : List ℕ) → Refuses bytes (Err NoMemory) → IsName bytes
unfolding is_memory
name_without_memory bytes refuses =
    let fits : length bytes ≤ 1024 = elim (cases_lt 1024 (length bytes)) [
      | inl long ↦ absurd (both_ways (is_memory (Err NoMemory)) (ap is_memory (refuses.too_long.1 long)) refl)
      | inr within ↦ within
    ] in
    IsName-from_tests bytes
    (λ none. both_ways (is_memory (Err NoMemory)) (ap is_memory (refuses.empty.1 none)) refl)
    fits
    (no_bad_byte bytes _ fits (λ at within found. (refuses.bad_byte at).1 (within, found)))

-- bytes are a name exactly where `Name::new` refuses them for want of memory
pub refused_for_memory : (bytes : List ℕ) (fault : NameFault) → Refuses bytes (Err fault)
    → (fault ≡ NoMemory) ↔ IsName bytes
refused_for_memory bytes fault refuses =
    (λ is. name_without_memory bytes (subst (λ f. Refuses bytes (Err f)) is refuses), name_refused bytes fault refuses)
