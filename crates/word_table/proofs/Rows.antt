-- A table that rises: what a binary search finds in it, and that no two of its rows hold the same word.
use Rattle.std.proofs.Common.{◌≡◌, refl, ◌∙◌, ap, subst, ℕ, zero, suc, ◌+◌, ◌<◌, true, IsTrue, List, [], ◌∷◌, length, get_or, slice_get, Some, Bor, arith, inl, inr, Contains}
use Rattle.std.specs.Prelude.{Err}
use Rattle.std.specs.Ordering.{is_lt, nat_cmp, ordering_reverse}
use Rattle.std.specs.declared.cmp.Ordering.{Ordering}
use Rattle.std.specs.declared.cmp.Ordering.TheVariants.{Less, Equal, Greater}
use Rattle.std.specs.Cmp.Lexicographic.{slice_cmp}
use Rattle.std.specs.List.{HoldsAt}
use Rattle.std.specs.List.Sorted.{IsBinarySearchResult, IsSortedBy}
use Rattle.std.proofs.lemmas.Bool.{and_parts, cases_lt}
use Rattle.std.proofs.lemmas.Cmp.{nat_list_cmp_total, tied_itself}
use Rattle.std.proofs.lemmas.List.Sorted.{searchable_from_sorted}
use Rattle.std.proofs.lemmas.Map.Lookups.{exact_bytes}
use Rattle.std.proofs.lemmas.Option.{slice_get_within, slice_get-get_or, get_or_from_slice_get}
use Rattle.word_table.specs.Texts.{texts, before_first, rising}

abbrev order : List ℕ → List ℕ → Ordering
order v w = slice_cmp nat_cmp v w

less_from_is_lt : (o : Ordering) → is_lt o ≡ true → o ≡ Less
less_from_is_lt Less h = refl
less_from_is_lt Equal h = cc
less_from_is_lt Greater h = cc

-- no text is below itself
not_below_itself : (v : List ℕ) → order v v ≡ Less → ⊥
not_below_itself v below = let same : order v v ≡ Equal = tied_itself nat_list_cmp_total v in cc

-- what a table without its first word, and its first two words, know
rest_rises : (v : List ℕ) (vs : List (List ℕ)) → IsTrue (rising (v ∷ vs)) → IsTrue (rising vs)
rest_rises v vs up = (and_parts (before_first v vs) (rising vs) up).1

first_below : (v w : List ℕ) (ws : List (List ℕ)) → IsTrue (rising (v ∷ w ∷ ws)) → order v w ≡ Less
first_below v w ws up = less_from_is_lt (order v w) (and_parts (is_lt (order v w)) (rising (w ∷ ws)) up).0

-- the first word is below each later one
below_later : (v : List ℕ) (vs : List (List ℕ)) (j : ℕ) (u : List ℕ) → IsTrue (rising (v ∷ vs))
    → slice_get vs j ≡ Some u → order v u ≡ Less
below_later v [] j u up here = cc
below_later v (w ∷ ws) zero u up here =
    let same : w ≡ u = cc in
    subst (λ t. order v t ≡ Less) same (first_below v w ws up)
below_later v (w ∷ ws) (suc j) u up here =
    nat_list_cmp_total.trans v w u (first_below v w ws up) (below_later w ws j u (rest_rises v (w ∷ ws) up) here)

below_later_same : (v : List ℕ) (vs : List (List ℕ)) (j : ℕ) (u : List ℕ) → IsTrue (rising (v ∷ vs))
    → v ≡ u → slice_get vs j ≡ Some u → ⊥
below_later_same v vs j u up same here =
    not_below_itself u (subst (λ t. order t u ≡ Less) same (below_later v vs j u up here))

-- two rows that hold the same word are one
pub one_row : (vs : List (List ℕ)) (i j : ℕ) (u : List ℕ) → IsTrue (rising vs)
    → slice_get vs i ≡ Some u → slice_get vs j ≡ Some u → i ≡ j
one_row [] i j u up at_i at_j = cc
one_row (v ∷ vs) zero zero u up at_i at_j = refl
one_row (v ∷ vs) zero (suc j) u up at_i at_j = absurd (below_later_same v vs j u up (cc) at_j)
one_row (v ∷ vs) (suc i) zero u up at_i at_j = absurd (below_later_same v vs i u up (cc) at_i)
one_row (v ∷ vs) (suc i) (suc j) u up at_i at_j = ap suc (one_row vs i j u (rest_rises v vs up) at_i at_j)

-- a table that rises is sorted
sorted : (ws : List (Bor (List ℕ))) → IsTrue (rising (texts ws)) → IsSortedBy (λ a b. is_lt (order a.now b.now)) ws
sorted [] up k d from within = absurd (omega arith)
sorted (v ∷ []) up k d from within = absurd (omega arith)
sorted (v ∷ w ∷ ws) up zero d from within =
    let below : order v.now w.now ≡ Less = first_below v.now w.now (texts ws) up in
    let above : order w.now v.now ≡ ordering_reverse (order v.now w.now) = nat_list_cmp_total.antisymm w.now v.now in
    ap is_lt (above ∙ ap ordering_reverse below)
sorted (v ∷ w ∷ ws) up (suc k) d from within =
    let next : suc k + 1 ≡ suc (k + 1) = omega arith in
    rw next (sorted (w ∷ ws) (rest_rises v.now (texts (w ∷ ws)) up) k d (omega arith) (omega arith))

-- what a binary search found: the row whose text ties with the word
pub found : (ws : List (Bor (List ℕ))) (i : ℕ) (u : List ℕ) → i < length ws
    → HoldsAt (λ w. order w.now u ≡ Equal) ws i
    → slice_get (texts ws) i ≡ Some u
found [] i u within ties = absurd (omega arith)
found (w ∷ ws) zero u within ties = ap Some (exact_bytes w.now u (ties w))
found (w ∷ ws) (suc i) u within ties = found ws i u (omega arith) ties

-- the reference that stands in the row of a word
word_at : (ws : List (Bor (List ℕ))) (k : ℕ) (u : List ℕ) → slice_get (texts ws) k ≡ Some u
    → (w : Bor (List ℕ)) × (k < length ws) × (get_or ws k w ≡ w) × (w.now ≡ u)
word_at [] k u here = cc
word_at (w ∷ ws) zero u here = (w, omega arith, refl, cc)
word_at (w ∷ ws) (suc k) u here =
    let (v, within, is, same) = word_at ws k u here in
    (v, omega (arith, within), is, same)

-- where a binary search finds nothing, no row holds the word
pub missing : (ws : List (Bor (List ℕ))) (u : List ℕ) (i : ℕ) → IsTrue (rising (texts ws))
    → IsBinarySearchResult (λ w. order w.now u) ws (Err i)
    → (k : ℕ) → slice_get (texts ws) k ≡ Some u → ⊥
missing ws u i up splits k here =
    let (w, within, is, same) = word_at ws k u here in
    let point = splits (searchable_from_sorted nat_list_cmp_total (λ (r : Bor (List ℕ)). r.now) ws u (sorted ws up)) in
    let tie : order (get_or ws k w).now u ≡ Equal = rw (is, same) (tied_itself nat_list_cmp_total u) in
    elim (cases_lt k i) [
      | inl low ↦ let less : order (get_or ws k w).now u ≡ Less = point.0 k w (omega arith) low in cc
      | inr high ↦ let greater : order (get_or ws k w).now u ≡ Greater = point.1 k w high within in cc
    ]

-- a word that stands in a row is in the table, and the other way round
pub contained : (vs : List (List ℕ)) (k : ℕ) (u : List ℕ) → slice_get vs k ≡ Some u → Contains vs u
contained vs k u here = (k, slice_get_within vs k u here, get_or_from_slice_get vs k u u here)

pub row_of_contained : (vs : List (List ℕ)) (u : List ℕ) → Contains vs u → (k : ℕ) × (slice_get vs k ≡ Some u)
row_of_contained vs u (k, within, is) = (k, slice_get-get_or vs k u within ∙ ap Some is)
