use Rattle.std.proofs.Common.{◌≡◌, ◌≢◌, ℕ, ◌<◌, ◌≤◌, ◌==◌, nat_lt, Bool, true, false, List, [], ◌∷◌, ◌++◌, length, get_or, Some, None, position, find, slice_get, zero, suc, IsSome, IsSomeAnd, IfSome, IfNone, AllPairs, arith, refl, sym, ap, ◌∙◌, Option, Bor, cond, ⊎_elim}
use Rattle.std.specs.List.{position_or_len, list_any}
use Rattle.std.specs.Option.{option_copied}
use Rattle.std.specs.Slice.{IsItemAt}
use Rattle.std.specs.List.Sorted.{IsPartitionPoint, IsNonDecreasingBy}
use Rattle.std.proofs.lemmas.Bool.{cases_lt, ltb-false, le-ltb, false≢true, false_from_ne_true, both_ways}
use Rattle.std.proofs.lemmas.Bool.Decides.{nat_tests}
use Rattle.std.proofs.lemmas.Option.{slice_get_past, slice_get-get_or}
use Rattle.std.proofs.lemmas.List.{length_push, get_or_push, get_or_append_left}
use Rattle.std.proofs.lemmas.List.Quantifiers.{position-Some}
use Rattle.std.proofs.lemmas.List.Folds.{find_at, list_any_at}
use Rattle.emh_base.proofs.PoolLemmas.{any_absent}
use Rattle.std.proofs.lemmas.List.Sums.{position_or_len_is}

-- the first item that passes stands at this place
pub position-at : {X : Type 0} (p : X → Bool) (xs : List X) (i : ℕ) (d : X) → i < length xs → ((k : ℕ) → k < i → p (get_or xs k d) ≡ false) → p (get_or xs i d) ≡ true → position p xs ≡ Some i
position-at p xs i d within before here =
    let e : position_or_len p xs ≡ i = position_or_len_is p xs i d (omega arith) before (λ _. here) in
    rw e (grind (arith, nat_tests))

-- no item passes
pub position-none : {X : Type 0} (p : X → Bool) (xs : List X) → ((k : ℕ) (d : X) → k < length xs → p (get_or xs k d) ≡ false) → position p xs ≡ None
position-none p [] fails = refl
position-none p (x ∷ xs) fails =
    let e : position_or_len p (x ∷ xs) ≡ length (x ∷ xs) = position_or_len_is p (x ∷ xs) (length (x ∷ xs)) x (omega arith) (λ k within. fails k x within) (λ h. absurd (omega arith)) in
    rw e (grind (arith, nat_tests))

-- items in rising order don't fall
pub non_decreasing-from_rising : {X : Type 0} (n : X → ℕ) (xs : List X) → AllPairs (λ a b. n a < n b) xs → IsNonDecreasingBy n xs
non_decreasing-from_rising n xs rise = λ i j d le within. ⊎_elim (λ below. omega (arith, rise i j d below within)) (λ (above : j ≤ i). let same : i ≡ j = omega arith in rw same (omega arith)) (cases_lt i j)

place-some : (b : Bool) (i j : ℕ) → Some i ≡ cond b (Some j) None → j ≡ i
place-some true i j e = cc
place-some false i j e = cc

not-past : (j n i : ℕ) → n ≤ j → Some i ≡ cond (nat_lt j n) (Some j) None → ⊥
not-past j n i above e = let never : Some i ≡ None = rw (le-ltb j n above) at e in cc

place-none : (b : Bool) (j : ℕ) → None ≡ cond b (Some j) None → b ≡ false
place-none true j e = cc
place-none false j e = refl

place-within : (j n i : ℕ) → Some i ≡ cond (nat_lt j n) (Some j) None → i < n
place-within j n i e = ⊎_elim (λ (below : j < n). omega (arith, place-some (nat_lt j n) i j e)) (λ (above : n ≤ j). absurd (not-past j n i above e)) (cases_lt j n)

pub position-within : {X : Type 0} (p : X → Bool) (xs : List X) (i : ℕ) → Some i ≡ position p xs → i < length xs
position-within p xs i at = place-within (position_or_len p xs) (length xs) i at

-- the first item that passes, by its place
pub find-from_place : {X : Type 0} (p : X → Bool) (xs : List X) (i : ℕ) → Some i ≡ position p xs → slice_get xs i ≡ find p xs
find-from_place p xs i at = rw (← place-some _ i (position_or_len p xs) at) (sym (find_at p xs))

pub find-from_none : {X : Type 0} (p : X → Bool) (xs : List X) → None ≡ position p xs → None ≡ find p xs
find-from_none p xs none =
    sym (find_at p xs ∙ slice_get_past xs (position_or_len p xs) (ltb-false _ _ (place-none _ (position_or_len p xs) none)))

-- what `get` of a slice gives, without the reference
pub option_copied-get : {X : Type 0} (xs : List X) (i : ℕ) (r : Option (Bor X)) → IsItemAt xs i r → option_copied r ≡ slice_get xs i
option_copied-get xs i None got = sym (slice_get_past xs i got.3)
option_copied-get xs i (Some x) got = ap Some got.1 ∙ sym (slice_get-get_or xs i x.now got.3.0)

abbrev Parts : {X : Type 0} → (X → ℕ) → ℕ → List X → ℕ → Type 0
Parts n number xs i = IsPartitionPoint (λ x. nat_lt (n x) number ≡ true) (λ x. nat_lt (n x) number ≡ false) xs i

-- where numbers rise, the item of a number stands at the place at which it is seen
pub position-own : {X : Type 0} (n : X → ℕ) (number : ℕ) (xs : List X) (i : ℕ) (d : X) → AllPairs (λ a b. n a < n b) xs → i < length xs → n (get_or xs i d) ≡ number → position (λ x. n x == number) xs ≡ Some i
position-own n number xs i d rise within here =
    position-at (λ x. n x == number) xs i d within (λ k below. let low = rise k i d below within in grind (arith, nat_tests)) (grind (arith, nat_tests))

-- what a binary search finds where it stops at the number
pub position-found : {X : Type 0} (n : X → ℕ) (number : ℕ) (xs : List X) (i : ℕ) (d : X) → Parts n number xs i → i < length xs → n (get_or xs i d) ≡ number → position (λ x. n x == number) xs ≡ Some i
position-found n number xs i d parts within here =
    position-at (λ x. n x == number) xs i d within (λ k below. let low = parts.0 k d (omega arith) below in grind (arith, nat_tests)) (grind (arith, nat_tests))

-- and where it stops elsewhere
pub position-absent : {X : Type 0} (n : X → ℕ) (number : ℕ) (xs : List X) (i : ℕ) → Parts n number xs i → AllPairs (λ a b. n a < n b) xs → (i < length xs → (d : X) → n (get_or xs i d) ≢ number) → position (λ x. n x == number) xs ≡ None
position-absent n number xs i parts rise here = position-none (λ x. n x == number) xs (λ k d within.
    ⊎_elim
    (λ below. let low = parts.0 k d (omega arith) below in grind (arith, nat_tests))
    (λ above. ⊎_elim
    (λ over. let high = parts.1 i d (omega arith) (omega arith) in let more = rise i k d over within in grind (arith, nat_tests))
    (λ under. let same : k ≡ i = omega arith in rw same (let other = here (omega arith) d in grind (arith, nat_tests)))
    (cases_lt i k))
    (cases_lt k i))

-- an item stands at each place
pub item-there : {X : Type 0} (xs : List X) (k : ℕ) → k < length xs → (x : X) × (slice_get xs k ≡ Some x)
item-there [] k within = absurd (omega arith)
item-there (x ∷ xs) zero within = (x, refl)
item-there (x ∷ xs) (suc k) within = item-there xs k (omega arith)

some-found : {X : Type 0} (o f : Option X) → o ≡ f → IsSome o → IsSomeAnd o (λ x. f ≡ Some x)
some-found None f e some = absurd (false≢true some)
some-found (Some x) f e some = sym e

is-there : {X : Type 0} (xs : List X) (i : ℕ) → i < length xs → IsSome (slice_get xs i)
is-there [] i within = absurd (omega arith)
is-there (x ∷ xs) zero within = refl
is-there (x ∷ xs) (suc i) within = is-there xs i (omega arith)

-- an item that is found stands at its place
pub found-at_place : {X : Type 0} (p : X → Bool) (xs : List X) (r : Option ℕ) → r ≡ position p xs → IfSome r (λ i. IsSomeAnd (slice_get xs i) (λ x. find p xs ≡ Some x))
found-at_place p xs None at = tt
found-at_place p xs (Some i) at =
    some-found (slice_get xs i) (find p xs) (find-from_place p xs i at) (is-there xs i (place-within (position_or_len p xs) (length xs) i at))

pub found-nowhere : {X : Type 0} (p : X → Bool) (xs : List X) (r : Option ℕ) → r ≡ position p xs → IfNone r (find p xs ≡ None)
found-nowhere p xs None at = sym (find-from_none p xs at)
found-nowhere p xs (Some i) at = tt

-- where no item passes, each fails
pub none-fails : {X : Type 0} (p : X → Bool) (xs : List X) → position p xs ≡ None → (k : ℕ) (d : X) → k < length xs → p (get_or xs k d) ≡ false
none-fails p xs none k d within =
    false_from_ne_true (p (get_or xs k d)) (λ passes. both_ways (list_any p xs) (any_absent p xs none) (list_any_at p xs k d within passes))

-- the first item that passes, with one more item that doesn't
pub position-push_no : {X : Type 0} (p : X → Bool) (xs : List X) (y : X) → p y ≡ false → position p (xs ++ y ∷ []) ≡ position p xs
position-push_no {X} p xs y fails = by_place (position p xs) refl
  where
    by_place : (o : Option ℕ) → position p xs ≡ o → position p (xs ++ y ∷ []) ≡ position p xs
    by_place None none =
        position-none p (xs ++ y ∷ []) (λ k d within. ⊎_elim
        (λ (front : k < length xs). ap p (get_or_append_left xs (y ∷ []) d k front) ∙ none-fails p xs none k d front)
        (λ (past : length xs ≤ k). let last : k ≡ length xs = omega (arith, length_push xs y) in ap p (get_or_push xs y d k (sym last)) ∙ fails)
        (cases_lt k (length xs)))
        ∙ sym none
    by_place (Some i) at =
        let here = position-Some p xs i y at in
        position-at p (xs ++ y ∷ []) i y (omega (arith, here.0, length_push xs y))
        (λ k below. ap p (get_or_append_left xs (y ∷ []) y k (omega (arith, here.0))) ∙ here.2 k below)
        (ap p (get_or_append_left xs (y ∷ []) y i here.0) ∙ here.1)
        ∙ sym at

-- and with one more that does, where none did
pub position-push_yes : {X : Type 0} (p : X → Bool) (xs : List X) (y : X) → position p xs ≡ None → p y ≡ true → position p (xs ++ y ∷ []) ≡ Some (length xs)
position-push_yes p xs y none passes =
    position-at p (xs ++ y ∷ []) (length xs) y (omega (arith, length_push xs y))
    (λ k below. ap p (get_or_append_left xs (y ∷ []) y k below) ∙ none-fails p xs none k y below)
    (ap p (get_or_push xs y y (length xs) refl) ∙ passes)
