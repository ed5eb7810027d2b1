-- Loops over items in rising order, and over names that are put into a pool.
use Rattle.std.proofs.Common.{◌≡◌, ◌≢◌, ℕ, ◌↔◌, ◌+◌, ◌<◌, ◌≤◌, List, [], ◌∷◌, ◌++◌, map, length, take, drop, get_or, position, None, not, bytes_eq, All, AllPairs, refl, ap, sym, subst, ◌∙◌, arith, ⊎_elim}
use Rattle.std.specs.List.{position_or_len, IsDistinct}
use Rattle.std.proofs.lemmas.Bool.{le-ltb, cases_lt}
use Rattle.std.proofs.lemmas.List.{take_more, take_all, length-take, length_push, get_or-take, get_or_push, get_or_append_left, get_or_at, length-append, drop_more, take-append-drop, map-append, append_assoc, map_more}
use Rattle.std.proofs.lemmas.List.Sums.{passes_at_first, prefix_len-le-length}
use Rattle.std.proofs.lemmas.Map.Made.{AllPairs-from_IsDistinct, IsDistinct-from_AllPairs}
use Rattle.std.proofs.lemmas.Slice.Eq.{bytes_eq-Decides}
use Rattle.std.proofs.lemmas.List.Elements.{All-push, All-weaker}
use Rattle.std.proofs.lemmas.List.Quantifiers.{all_pairs_push}
use Rattle.emh_base.specs.Pool.{with_name, number_in}
use Rattle.emh_base.proofs.PoolLemmas.{any_absent}
use Rattle.flatten_rules.proofs.Places.{item-there}

-- The items rise, and their numbers are below that one, which is the last one's and one more.
pub record Rises {X : Type 0} (number : X → ℕ) (xs : List X) (next : ℕ) : Type 0 where
  pub rise : AllPairs (λ a b. number a < number b) xs
  pub below : All (λ x. number x < next) xs
  pub last : 0 < next → (k : ℕ) × (k < length xs) × ((d : X) → number (get_or xs k d) + 1 ≡ next)

pub rises-more : {X : Type 0} (number : X → ℕ) (xs : List X) (i : ℕ) (d : X) (next : ℕ) → i < length xs → next ≤ number (get_or xs i d) → Rises number (take i xs) next → Rises number (take (i + 1) xs) (number (get_or xs i d) + 1)
rises-more {X} number xs i d next within high before =
    let x : X = get_or xs i d in
    let front : List X = take i xs in
    rw (take_more xs i d within) (record {
      rise = all_pairs_push (λ a b. number a < number b) front x before.rise (λ k e below. omega (arith, before.below k e below));
      below = All-push (λ y. number y < number x + 1) front x
          (All-weaker (λ y. number y < next) (λ y. number y < number x + 1) (λ y low. omega arith) front before.below) (omega arith);
      last = λ some. (length front, omega (arith, length_push front x), λ e. ap (λ y. number y + 1) (get_or_push front x e (length front) refl));
    })

-- an item whose number isn't above those before it
pub rises-not : {X : Type 0} (number : X → ℕ) (xs : List X) (i : ℕ) (d : X) (next : ℕ) → i < length xs → number (get_or xs i d) < next → Rises number (take i xs) next → AllPairs (λ a b. number a < number b) xs → ⊥
rises-not number xs i d next within low before rise =
    let last = before.last (omega arith) in
    let k_below : last.0 < i = omega (arith, last.1, length-take i xs) in
    let same : number (get_or (take i xs) last.0 d) ≡ number (get_or xs last.0 d) = ap number (get_or-take i xs last.0 d k_below) in
    absurd (omega (arith, last.2 d, rise last.0 i d k_below within))

pub rises-all : {X : Type 0} (number : X → ℕ) (xs : List X) (i : ℕ) (next counter : ℕ) → length xs ≤ i → Rises number (take i xs) next → (next ≤ counter) ↔ (AllPairs (λ a b. number a < number b) xs × All (λ x. number x < counter) xs)
rises-all {X} number xs i next counter past before =
    let whole : Rises number xs next = rw (take_all i xs past) at before in (
      λ low. (whole.rise, All-weaker (λ x. number x < next) (λ x. number x < counter) (λ x below. omega arith) xs whole.below),
      λ sound. ⊎_elim (λ (over : counter < next). absurd (over-last number xs next counter whole over sound.1)) (λ (low : next ≤ counter). low) (cases_lt counter next),
    )
  where
    over-last : {X : Type 0} (number : X → ℕ) (xs : List X) (next counter : ℕ) → Rises number xs next → counter < next → All (λ x. number x < counter) xs → ⊥
    over-last number xs next counter whole over below =
        let last = whole.last (omega arith) in
        let there = (item-there xs last.0 last.1).0 in
        absurd (omega (arith, last.2 there, below last.0 there last.1))

-- a name that gets the number of a new one is new
pub with_name-new : (names : List (List ℕ)) (name : List ℕ) → number_in names name ≡ length names → with_name names name ≡ names ++ name ∷ []
with_name-new names name new =
    let none : position (bytes_eq name) names ≡ None = rw (le-ltb (position_or_len (bytes_eq name) names) (length names) (omega arith)) refl in
    rw (any_absent (bytes_eq name) names none) refl

pub put_new-more : {X : Type 0} (name : X → List ℕ) (xs : List X) (i : ℕ) (d : X) (old pool made : List (List ℕ)) → i < length xs → pool ≡ old ++ map name (take i xs) → number_in pool (name (get_or xs i d)) ≡ length pool → made ≡ with_name pool (name (get_or xs i d)) → made ≡ old ++ map name (take (i + 1) xs)
put_new-more name xs i d old pool made within before new put =
    put ∙ with_name-new pool (name (get_or xs i d)) new
    ∙ rw (before, map_more name xs i d within) (append_assoc old (map name (take i xs)) (name (get_or xs i d) ∷ []))

-- a name that gets another number is there already, so the names are not one of a kind with it
pub put_new-known : {X : Type 0} (name : X → List ℕ) (xs : List X) (i : ℕ) (d : X) (old pool : List (List ℕ)) → i < length xs → pool ≡ old ++ map name (take i xs) → number_in pool (name (get_or xs i d)) ≢ length pool → IsDistinct bytes_eq (old ++ map name xs) → ⊥
put_new-known name xs i d old pool within before known distinct =
    let x = get_or xs i d in
    let rest : List (List ℕ) = map name (drop (i + 1) xs) in
    let split : map name xs ≡ map name (take i xs) ++ name x ∷ rest =
    ap (map name) (sym (take-append-drop i xs) ∙ ap (λ ys. take i xs ++ ys) (drop_more xs i d within)) ∙ map-append name (take i xs) (x ∷ drop (i + 1) xs)
    in
    let all : old ++ map name xs ≡ pool ++ name x ∷ rest =
    ap (λ ys. old ++ ys) split ∙ sym (append_assoc old (map name (take i xs)) (name x ∷ rest)) ∙ ap (λ ys. ys ++ name x ∷ rest) (sym before)
    in
    let few : number_in pool (name x) ≤ length pool = prefix_len-le-length (λ y. not (bytes_eq (name x) y)) pool in
    let there : number_in pool (name x) < length pool = omega (arith, known) in
    let same : name x ≡ get_or pool (number_in pool (name x)) [] =
    let passes = passes_at_first (bytes_eq (name x)) pool [] there in grind (arith, bytes_eq-Decides)
    in
    let differ = AllPairs-from_IsDistinct bytes_eq-Decides (pool ++ name x ∷ rest) (subst (IsDistinct bytes_eq) all distinct) (number_in pool (name x)) (length pool) [] there (omega (arith, length-append pool (name x ∷ rest))) in
    differ (get_or_append_left pool (name x ∷ rest) [] (number_in pool (name x)) there ∙ sym same ∙ sym (get_or_at pool (name x) rest [] (length pool) refl))

-- what isn't one of a kind stays so with more names
pub distinct-front : (xs ys : List (List ℕ)) → IsDistinct bytes_eq (xs ++ ys) → IsDistinct bytes_eq xs
distinct-front xs ys distinct = IsDistinct-from_AllPairs bytes_eq-Decides xs (λ i j d below within.
    let differ = AllPairs-from_IsDistinct bytes_eq-Decides (xs ++ ys) distinct i j d below (omega (arith, length-append xs ys)) in
    rw (get_or_append_left xs ys d i (omega arith), get_or_append_left xs ys d j within) at differ)
