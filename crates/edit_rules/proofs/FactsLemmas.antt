-- What a state is read for.
use Rattle.std.proofs.Common.{◌≡◌, ℕ, zero, suc, ◌+◌, ◌<◌, ◌≤◌, nat_lt, nat_le, Bool, true, false, List, [], ◌∷◌, length, get_or, slice_get, find, Some, All, AllPairs, refl, sym, ap, ◌∙◌, arith, ⊎_elim}
use Rattle.std.specs.List.{position_or_len}
use Rattle.std.specs.List.Sorted.{IsPartitionPoint}
use Rattle.std.proofs.lemmas.Bool.{cases_lt}
use Rattle.std.proofs.lemmas.Bool.Decides.{nat_tests}
use Rattle.std.proofs.lemmas.List.Elements.{All-get_or}
use Rattle.std.proofs.lemmas.List.Folds.{find_at}
use Rattle.std.proofs.lemmas.List.Sums.{position_or_len_is}
use Rattle.std.proofs.lemmas.Option.{slice_get_within, get_or_from_slice_get}

-- in rising order the number at a place is that place at least
rank-le : {X : Type 0} (number : X → ℕ) (xs : List X) → AllPairs (λ a b. number a < number b) xs → (i : ℕ) (d : X) → i < length xs → i ≤ number (get_or xs i d)
rank-le number xs rise zero d within = omega arith
rank-le number xs rise (suc i) d within =
    omega (arith, rank-le number xs rise i d (omega arith), rise i (suc i) d (omega arith) within)

-- so there are no more of them than a counter that they are below
pub length-below : {X : Type 0} (number : X → ℕ) (xs : List X) (counter : ℕ) → AllPairs (λ a b. number a < number b) xs → All (λ x. number x < counter) xs → length xs ≤ counter
length-below number [] counter rise low = omega arith
length-below number (x ∷ xs) counter rise low =
    let within : length xs < length (x ∷ xs) = omega arith in
    let least : length xs ≤ number (get_or (x ∷ xs) (length xs) x) = rank-le number (x ∷ xs) rise (length xs) x within in
    let most : number (get_or (x ∷ xs) (length xs) x) < counter = All-get_or (λ y. number y < counter) (x ∷ xs) (length xs) x within low in
    omega (arith, least, most)

pub first-of-all : {X : Type 0} (number : X → ℕ) (xs : List X) → slice_get xs 0 ≡ find (λ x. true) xs
first-of-all number [] = refl
first-of-all number (x ∷ xs) = refl

pub first-past : {X : Type 0} (number : X → ℕ) (last : ℕ) (xs : List X) (i : ℕ) → i ≤ length xs
    → IsPartitionPoint (λ x. nat_le (number x) last ≡ true) (λ x. nat_le (number x) last ≡ false) xs i
    → slice_get xs i ≡ find (λ x. nat_lt last (number x)) xs
first-past number last [] zero within parts = refl
first-past number last [] (suc i) within parts = absurd (omega arith)
first-past {X} number last (x ∷ xs) i within parts =
    let p : X → Bool = λ y. nat_lt last (number y) in
    let at : position_or_len p (x ∷ xs) ≡ i =
    position_or_len_is p (x ∷ xs) i x within (λ k below. let low = parts.0 k x (omega arith) below in grind (arith, nat_tests))
    (λ more. let high = parts.1 i x (omega arith) more in grind (arith, nat_tests)) in
    sym (find_at p (x ∷ xs) ∙ ap (slice_get (x ∷ xs)) at)

-- behind the item of a number in rising order
pub parts-behind : {X : Type 0} (number : X → ℕ) (xs : List X) (k : ℕ) (x : X) → AllPairs (λ a b. number a < number b) xs → slice_get xs k ≡ Some x
    → IsPartitionPoint (λ z. nat_le (number z) (number x) ≡ true) (λ z. nat_le (number z) (number x) ≡ false) xs (k + 1)
parts-behind {X = X} number xs k x rise here =
    let inside : k < length xs = slice_get_within xs k x here in
    let at : (d : X) → number (get_or xs k d) ≡ number x = λ d. ap number (get_or_from_slice_get xs k x d here) in (
      λ j d from below.
          ⊎_elim
          (λ (before : j < k). let low = rise j k d before inside in let is = at d in grind (arith, nat_tests))
          (λ (from_k : k ≤ j). let same : j ≡ k = omega arith in let is = at d in rw same (grind (arith, nat_tests)))
          (cases_lt j k),
      λ j d from below.
          let high = rise k j d (omega arith) below in let is = at d in grind (arith, nat_tests),
    )
