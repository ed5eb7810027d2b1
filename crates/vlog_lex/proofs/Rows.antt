-- The first row that holds a word is the row that a look-up tells.
use Rattle.std.proofs.Common.{◌≡◌, refl, sym, ◌∙◌, ap, ℕ, ◌<◌, ◌↔◌, Bool, false, nat_lt, inl, inr, List, [], get_or, length, slice_get, Option, Some, None, arith}
use Rattle.std.specs.Prelude.{position}
use Rattle.std.specs.List.{position_or_len}
use Rattle.std.proofs.lemmas.List.Sums.{fails_before_first}
use Rattle.std.specs.Str.{bytes_eq}
use Rattle.std.proofs.lemmas.List.Quantifiers.{position-Some}
use Rattle.std.proofs.lemmas.Option.{slice_get-get_or, slice_get_within, get_or_from_slice_get}
use Rattle.std.proofs.lemmas.Slice.Eq.{bytes_eq-Decides}
use Rattle.std.proofs.lemmas.Bool.{both_ways, cases_lt, cond-true, lt-ltb}

-- where no element passes a test, each fails it
none_passes : {X : Type 0} (p : X → Bool) (xs : List X) → position p xs ≡ None → (k : ℕ) (d : X) → k < length xs
    → p (get_or xs k d) ≡ false
none_passes p xs none k d within =
    let first = position_or_len p xs in
    elim (cases_lt first (length xs)) [
      | inl low ↦
          let some : position p xs ≡ Some first =
          cond-true (nat_lt first (length xs)) (Some first) None (lt-ltb first (length xs) low) in
          cc
      | inr high ↦ fails_before_first p xs k d (omega arith)
    ]

-- what a look-up by rows tells
abbrev pub Tells : List (List ℕ) → List ℕ → Option ℕ → Type 0
Tells words text found = (i : ℕ) → (found ≡ Some i) ↔ (slice_get words i ≡ Some text)

pub position_is : (words : List (List ℕ)) (text : List ℕ) (found : Option ℕ) → Tells words text found
    → position (bytes_eq text) words ≡ found
position_is words text found tells = go (position (bytes_eq text) words) refl found tells
  where
    go : (first : Option ℕ) → position (bytes_eq text) words ≡ first → (found : Option ℕ) → Tells words text found
        → first ≡ found
    go (Some i) is found tells =
        let (within, same, before) = position-Some (bytes_eq text) words i [] is in
        let equal : text ≡ get_or words i [] = (bytes_eq-Decides text (get_or words i [])).0 same in
        sym ((tells i).1 (slice_get-get_or words i [] within ∙ ap Some (sym equal)))
    go None is None tells = refl
    go None is (Some i) tells =
        let here : slice_get words i ≡ Some text = (tells i).0 refl in
        let fails = none_passes (bytes_eq text) words is i [] (slice_get_within words i text here) in
        let same = (bytes_eq-Decides text (get_or words i [])).1 (sym (get_or_from_slice_get words i text [] here)) in
        absurd (both_ways (bytes_eq text (get_or words i [])) fails same)
