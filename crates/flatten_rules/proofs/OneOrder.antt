-- Of the orders of some texts one rises.
use Rattle.std.proofs.Common.{◌≡◌, ℕ, ◌+◌, ◌<◌, suc, add-one, Bool, true, false, cond, List, [], ◌∷◌, refl, sym, ap, ◌∙◌, subst, arith, Ordering, Less, Equal, Greater, is_lt, is_gt, is_eq, true≢false, IsPermutation, IsSorted}
use Rattle.std.specs.List.{AllByRecursion}
use Rattle.std.specs.Ordering.{nat_cmp, ordering_reverse}
use Rattle.std.specs.Cmp.Lexicographic.{slice_cmp, nat_list_cmp_total}
use Rattle.std.proofs.lemmas.Cmp.{tied_itself, upto}
use Rattle.std.proofs.lemmas.Map.Lookups.{exact_bytes}
use Rattle.std.proofs.lemmas.List.Sorted.{sum_by-IsPermutation}
use Rattle.std.proofs.lemmas.List.Recursion.{is_sum_by}
use Rattle.std.specs.List.{sum_by}
use Rattle.flatten_rules.specs.Sorted.{placed, sorted}

abbrev Text : Type 0
Text = List ℕ

abbrev cmp : Text → Text → Ordering
cmp = slice_cmp nat_cmp

abbrev AtMost : Text → Text → Type 0
AtMost a b = is_gt (cmp a b) ≡ false

abbrev Rises : List Text → Type 0
Rises [] = Unit {0}
Rises (x ∷ xs) = AllByRecursion (AtMost x) xs × Rises xs

-- how often a text is there
abbrev times : Text → List Text → ℕ
times x [] = 0
times x (y ∷ ys) = cond (is_eq (cmp x y)) 1 0 + times x ys

-- what is so of each is so of one that is there
all-there : (P : Text → Type 0) (x : Text) (ys : List Text) → AllByRecursion P ys → 0 < times x ys → P x
all-there P x [] all some = absurd (omega (arith, some))
all-there P x (y ∷ ys) all some = go (cmp x y) refl some (λ later. all-there P x ys all.1 later)
  where
    go : (o : Ordering) → cmp x y ≡ o → 0 < cond (is_eq o) 1 0 + times x ys → (0 < times x ys → P x) → P x
    go Equal e here later = subst P (sym (exact_bytes x y e)) all.0
    go Less e here later = later (omega (arith, here))
    go Greater e here later = later (omega (arith, here))

all-weaker : (P Q : Text → Type 0) → ((y : Text) → P y → Q y) → (ys : List Text) → AllByRecursion P ys → AllByRecursion Q ys
all-weaker P Q weaker [] all = tt
all-weaker P Q weaker (y ∷ ys) all = (weaker y all.0, all-weaker P Q weaker ys all.1)

turned : (x y : Text) (o : Ordering) → cmp x y ≡ o → cmp y x ≡ ordering_reverse o
turned x y o e = nat_list_cmp_total.antisymm y x ∙ ap ordering_reverse e

AtMost-self : (x : Text) → AtMost x x
AtMost-self x = ap is_gt (tied_itself nat_list_cmp_total x)

one : (x y : Text) → AtMost x y → AtMost y x → x ≡ y
one x y below above = go (cmp x y) refl
  where
    go : (o : Ordering) → cmp x y ≡ o → x ≡ y
    go Equal e = exact_bytes x y e
    go Less e = absurd (true≢false (sym (ap is_gt (turned x y Less e)) ∙ above))
    go Greater e = absurd (true≢false (sym (ap is_gt e) ∙ below))

times-self : (x : Text) (xs : List Text) → times x (x ∷ xs) ≡ 1 + times x xs
times-self x xs = ap (λ o. cond (is_eq o) 1 0 + times x xs) (tied_itself nat_list_cmp_total x)

-- two lists that rise and have each text as often are one
same : (xs ys : List Text) → Rises xs → Rises ys → ((z : Text) → times z xs ≡ times z ys) → xs ≡ ys
same [] [] up up' often = refl
same [] (y ∷ ys) up up' often = absurd (omega (arith, often y, times-self y ys))
same (x ∷ xs) [] up up' often = absurd (omega (arith, often x, times-self x xs))
same (x ∷ xs) (y ∷ ys) up up' often =
    let below : AtMost x y = all-there (AtMost x) y (x ∷ xs) (AtMost-self x, up.0) (omega (arith, often y, times-self y ys)) in
    let above : AtMost y x = all-there (AtMost y) x (y ∷ ys) (AtMost-self y, up'.0) (omega (arith, often x, times-self x xs)) in
    let first : x ≡ y = one x y below above in
    let others : (z : Text) → times z xs ≡ times z ys = λ z. left (cond (is_eq (cmp z y)) 1 0) (times z xs) (times z ys)
    (ap (λ w. cond (is_eq (cmp z w)) 1 0 + times z xs) (sym first) ∙ often z) in
    ap (λ w. w ∷ xs) first ∙ ap (λ ws. y ∷ ws) (same xs ys up.1 up'.1 others)
  where
    left : (k a b : ℕ) → k + a ≡ k + b → a ≡ b
    left k a b e = omega (arith, e)

all-placed : (P : Text → Type 0) (x : Text) (ys : List Text) → P x → AllByRecursion P ys → AllByRecursion P (placed x ys)
unfolding placed
all-placed P x [] here all = (here, tt)
all-placed P x (y ∷ ys) here all =
    elim (is_gt (cmp x y)) as (λ b. AllByRecursion P (cond b (y ∷ placed x ys) (x ∷ y ∷ ys))) [ true ↦ (all.0, all-placed P x ys here all.1) | false ↦ (here, all) ]

Rises-placed : (x : Text) (ys : List Text) → Rises ys → Rises (placed x ys)
unfolding placed
Rises-placed x [] up = (tt, tt)
Rises-placed x (y ∷ ys) up = go (is_gt (cmp x y)) refl (Rises-placed x ys up.1)
  where
    after : (o : Ordering) → cmp x y ≡ o → is_gt o ≡ true → AtMost y x
    after Greater e gt = ap is_gt (turned x y Greater e)
    after Less e gt = absurd (true≢false (sym gt))
    after Equal e gt = absurd (true≢false (sym gt))

    go : (b : Bool) → is_gt (cmp x y) ≡ b → Rises (placed x ys) → Rises (cond b (y ∷ placed x ys) (x ∷ y ∷ ys))
    go true e later = (all-placed (AtMost y) x ys (after (cmp x y) refl e) up.0, later)
    go false e later = ((e, all-weaker (AtMost y) (AtMost x) (λ z. upto nat_list_cmp_total x y z e) ys up.0), up)

times-placed : (z x : Text) (ys : List Text) → times z (placed x ys) ≡ times z (x ∷ ys)
unfolding placed
times-placed z x [] = refl
times-placed z x (y ∷ ys) =
    elim (is_gt (cmp x y)) as (λ b. times z (cond b (y ∷ placed x ys) (x ∷ y ∷ ys)) ≡ times z (x ∷ y ∷ ys)) [
      | true ↦ over (cond (is_eq (cmp z y)) 1 0) (cond (is_eq (cmp z x)) 1 0) (times z ys) (times z (placed x ys)) (times-placed z x ys)
      | false ↦ refl
    ]
  where
    over : (a b k n : ℕ) → n ≡ b + k → a + n ≡ b + (a + k)
    over a b k n e = omega (arith, e)

Rises-sorted : (xs : List Text) → Rises (sorted xs)
unfolding sorted
Rises-sorted [] = tt
Rises-sorted (x ∷ xs) = Rises-placed x (sorted xs) (Rises-sorted xs)

times-sorted : (z : Text) (xs : List Text) → times z (sorted xs) ≡ times z xs
unfolding sorted
times-sorted z [] = refl
times-sorted z (x ∷ xs) = times-placed z x (sorted xs) ∙ ap (λ n. cond (is_eq (cmp z x)) 1 0 + n) (times-sorted z xs)

-- a list that no neighbours break rises
below-all : (x : Text) (ys : List Text) → IsSorted cmp (x ∷ ys) → Rises ys → AllByRecursion (AtMost x) ys
below-all x [] up rises = tt
below-all x (y ∷ ys) up rises =
    let first : AtMost x y = go (cmp y x) refl (up 0 x (omega arith) (omega arith)) in
    (first, all-weaker (AtMost y) (AtMost x) (λ z. upto nat_list_cmp_total x y z first) ys rises.0)
  where
    go : (o : Ordering) → cmp y x ≡ o → is_lt o ≡ false → AtMost x y
    go Less e lt = absurd (true≢false lt)
    go Equal e lt = ap is_gt (turned y x Equal e)
    go Greater e lt = ap is_gt (turned y x Greater e)

Rises-from_sort : (xs : List Text) → IsSorted cmp xs → Rises xs
Rises-from_sort [] up = tt
Rises-from_sort (x ∷ xs) up =
    let tail : IsSorted cmp xs = λ k d low high. rw add-one (rw add-one at (up (suc k) d (omega arith) (omega arith))) in
    let rises = Rises-from_sort xs tail in
    (below-all x xs up rises, rises)

times-permutation : (z : Text) (xs ys : List Text) → IsPermutation xs ys → times z ys ≡ times z xs
times-permutation z xs ys moved =
    let n = λ (y : Text). cond (is_eq (cmp z y)) 1 0 in
    is_sum_by (times z) n refl (λ _ _. refl) ys ∙ sum_by-IsPermutation n xs ys moved ∙ sym (is_sum_by (times z) n refl (λ _ _. refl) xs)

-- a rearrangement in which no neighbours are in the wrong order is the sorted one
pub sorted-only : (xs ys : List Text) → IsPermutation xs ys → IsSorted cmp ys → ys ≡ sorted xs
sorted-only xs ys moved up =
    same ys (sorted xs) (Rises-from_sort ys up) (Rises-sorted xs) (λ z. times-permutation z xs ys moved ∙ sym (times-sorted z xs))

-- lists over which each number adds up alike are one when they are sorted
pub sorted-alike : (xs ys : List Text) → ((n : Text → ℕ) → sum_by n xs ≡ sum_by n ys) → sorted xs ≡ sorted ys
sorted-alike xs ys alike =
    let hit = λ (z y : Text). cond (is_eq (cmp z y)) 1 0 in
    let often : (z : Text) → times z (sorted xs) ≡ times z (sorted ys) = λ z.
    times-sorted z xs ∙ is_sum_by (times z) (hit z) refl (λ _ _. refl) xs ∙ alike (hit z)
    ∙ sym (is_sum_by (times z) (hit z) refl (λ _ _. refl) ys) ∙ sym (times-sorted z ys) in
    same (sorted xs) (sorted ys) (Rises-sorted xs) (Rises-sorted ys) often
