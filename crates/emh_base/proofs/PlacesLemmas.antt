-- A tree of entries in the order of their keys, seen as a finite map.
use Rattle.std.proofs.Common.{◌≡◌, refl, sym, ◌∙◌, ap, ℕ, Bool, true, false, cond, ◌&&◌, T, List, [], ◌∷◌, ◌++◌, length, filter, Option, Some, None, append_assoc, append-nil}
use Rattle.std.specs.declared.cmp.Ordering.{Ordering}
use Rattle.std.specs.declared.cmp.Ordering.TheVariants.{Less, Equal, Greater}
use Rattle.std.specs.Ordering.{is_eq, is_lt, eq_by_cmp, ordering_reverse}
use Rattle.std.specs.Cmp.{IsTotalOrder, eq_by_cmp_equiv}
use Rattle.std.specs.List.{AllByRecursion}
use Rattle.std.specs.List.Sorted.{IsStrictlySortedBy}
use Rattle.std.specs.Map.{lookup, keys_of}
use Rattle.std.specs.FinMap.Entries.{below_all, is_sorted-where_key, find-where_key}
use Rattle.std.specs.FinMap.{FinMap, IsAntisymmetric, nat_cmp-IsAntisymmetric, slice_cmp-IsAntisymmetric, find, is_sorted, empty, get, insert, remove, len, entries, from_entries, from_sorted, get-from_entries, get-from_sorted, get-insert, get-remove, entries-from_sorted, same_map, len-entries, from_entries_push, retain_keys, get-retain_keys, get-entries, entries_sorted}
use Rattle.emh_base.specs.declared.ids.InstId.{InstId}
use Rattle.emh_base.specs.Path.{step_cmp, path_cmp}

both : (a b : Bool) → T a → T b → T (a && b)
both true b p q = q
both false b p q = absurd p

first : (a b : Bool) → T (a && b) → T a
first true b p = tt
first false b p = p

second : (a b : Bool) → T (a && b) → T b
second true b p = p
second false b p = absurd p

less_is : (order : Ordering) → T (is_lt order) → order ≡ Less
less_is Less p = refl
less_is Equal p = absurd p
less_is Greater p = absurd p

module _ {K X : Type 0} (R : K → K → Ordering) where
  -- a look-up in the tree is one in the map
  lookup_find : (q : K) (es : List (K × X)) → lookup (λ k. is_eq (R q k)) es ≡ find R q es
  lookup_find q [] = refl
  lookup_find q (e ∷ es) = ap (cond (eq_by_cmp R q e.0) (Some e.1)) (lookup_find q es)

  below : (x : K) (es : List (K × X)) → AllByRecursion (λ y. R x y ≡ Less) (keys_of es) → T (below_all R x es)
  below x [] less = tt
  below x (e ∷ es) less = rw less.0 (below x es less.1)

  sorted : (es : List (K × X)) → IsStrictlySortedBy R (keys_of es) → T (is_sorted R es)
  unfolding IsStrictlySortedBy
  sorted [] rises = tt
  sorted (e ∷ es) rises = both (below_all R e.0 es) (is_sorted R es) (below e.0 es rises.0) (sorted es rises.1)

module _ {K X : Type 0} (R : K → K → Ordering) (o : IsTotalOrder R) (same : IsAntisymmetric R) where
  pub get_seen : (es : List (K × X)) (q : K) → lookup (λ k. is_eq (R q k)) es ≡ get (from_entries {R = R} es) q
  get_seen es q = lookup_find R q es ∙ sym (get-from_entries o es q)

  -- what a change of the tree at one key does to the map
  updated : (es made : List (K × X)) (k : K) (w : Option X)
      → ((q : K) → lookup (λ x. is_eq (R q x)) made ≡ cond (is_eq (R k q)) w (lookup (λ x. is_eq (R q x)) es))
      → (q : K) → get (from_entries {R = R} made) q ≡ cond (eq_by_cmp R q k) w (get (from_entries {R = R} es) q)
  updated es made k w updates q =
      sym (get_seen made q) ∙ updates q
      ∙ ap (λ b. cond b w (lookup (λ x. is_eq (R q x)) es)) ((eq_by_cmp_equiv o).symm k q)
      ∙ ap (cond (eq_by_cmp R q k) w) (get_seen es q)

  pub inserted : (es made : List (K × X)) (k : K) (v : X)
      → ((q : K) → lookup (λ x. is_eq (R q x)) made ≡ cond (is_eq (R k q)) (Some v) (lookup (λ x. is_eq (R q x)) es))
      → from_entries {R = R} made ≡ insert (from_entries {R = R} es) k v
  inserted es made k v updates =
      same_map o same _ _ (λ q.
      updated es made k (Some v) updates q ∙ sym (get-insert o (from_entries {R = R} es) k v q))

  pub removed : (es made : List (K × X)) (k : K)
      → ((q : K) → lookup (λ x. is_eq (R q x)) made ≡ cond (is_eq (R k q)) None (lookup (λ x. is_eq (R q x)) es))
      → from_entries {R = R} made ≡ remove (from_entries {R = R} es) k
  removed es made k updates =
      same_map o same _ _ (λ q. updated es made k None updates q ∙ sym (get-remove o (from_entries {R = R} es) k q))

  -- entries in order are those of the map
  pub entries_seen : (es : List (K × X)) → IsStrictlySortedBy R (keys_of es) → entries (from_entries {R = R} es) ≡ es
  entries_seen es rises =
      let rising : T (is_sorted R es) = sorted R es rises in
      ap entries (same_map o same (from_entries {R = R} es) (from_sorted es)
      (λ q. get-from_entries o es q ∙ sym (get-from_sorted R es q rising))) ∙ entries-from_sorted R es rising

  pub len_seen : (es : List (K × X)) → IsStrictlySortedBy R (keys_of es) → length es ≡ len (from_entries {R = R} es)
  len_seen es rises = sym (len-entries (from_entries {R = R} es) ∙ ap length (entries_seen es rises))

step : ℕ → InstId
step n = record { 0 = n }

step_apart : IsAntisymmetric step_cmp
unfolding step
step_apart a b tied = ap step (nat_cmp-IsAntisymmetric a.0 b.0 tied)

-- paths that tie are the same
pub path_apart : IsAntisymmetric path_cmp
path_apart = slice_cmp-IsAntisymmetric step_apart

-- the map with entries put in, in turn
abbrev pub with_entries : {K X : Type 0} {R : K → K → Ordering} → FinMap R X → List (K × X) → FinMap R X
with_entries m [] = m
with_entries m (e ∷ es) = with_entries (insert m e.0 e.1) es

below_last : {K X : Type 0} (R : K → K → Ordering) (x : K) (front : List (K × X)) (e : K × X) (es : List (K × X))
    → AllByRecursion (λ y. R x y ≡ Less) (keys_of (front ++ e ∷ es)) → R x e.0 ≡ Less
below_last R x [] e es less = less.0
below_last R x (f ∷ front) e es less = below_last R x front e es less.1

module _ {K X : Type 0} (R : K → K → Ordering) (o : IsTotalOrder R) (same : IsAntisymmetric R) where
  -- a key above those of some entries is at none of them
  above_none : (front : List (K × X)) (e : K × X) (es : List (K × X))
      → IsStrictlySortedBy R (keys_of (front ++ e ∷ es)) → find R e.0 front ≡ None
  unfolding IsStrictlySortedBy
  above_none [] e es rises = refl
  above_none (f ∷ front) e es rises =
      let less : R f.0 e.0 ≡ Less = below_last R f.0 front e es rises.0 in
      let more : R e.0 f.0 ≡ Greater = o.antisymm e.0 f.0 ∙ ap ordering_reverse less in
      rw more (above_none front e es rises.1)

  put_in : (front es : List (K × X)) → IsStrictlySortedBy R (keys_of (front ++ es))
      → with_entries (from_entries {R = R} front) es ≡ from_entries {R = R} (front ++ es)
  put_in front [] rises = ap (from_entries {R = R}) (sym (append-nil front))
  put_in front (e ∷ es) rises =
      let none : find R e.0 front ≡ None = above_none front e es rises in
      let whole : (front ++ e ∷ []) ++ es ≡ front ++ e ∷ es = append_assoc front (e ∷ []) es in
      ap (λ m. with_entries m es) (sym (from_entries_push o same front e.0 e.1 none))
      ∙ put_in (front ++ e ∷ []) es (rw whole rises) ∙ ap (from_entries {R = R}) whole

  above : (x : K) (es : List (K × X)) → T (below_all R x es) → AllByRecursion (λ y. R x y ≡ Less) (keys_of es)
  above x [] less = tt
  above x (e ∷ es) less = (
    less_is (R x e.0) (first (is_lt (R x e.0)) (below_all R x es) less),
    above x es (second (is_lt (R x e.0)) (below_all R x es) less),
  )

  rises_by : (es : List (K × X)) → T (is_sorted R es) → IsStrictlySortedBy R (keys_of es)
  unfolding IsStrictlySortedBy
  rises_by [] rising = tt
  rises_by (e ∷ es) rising = (
    above e.0 es (first (below_all R e.0 es) (is_sorted R es) rising),
    rises_by es (second (below_all R e.0 es) (is_sorted R es) rising),
  )

  -- the entries whose keys pass, put into an empty map in turn, make the map that keeps these keys
  pub put_in_kept : (m : FinMap R X) (keeps : K → Bool)
      → with_entries (empty {X = X} {R = R}) (filter (λ e. keeps e.0) (entries m)) ≡ retain_keys m keeps
  put_in_kept m keeps =
      let alike : (q x : K) → R q x ≡ Equal → keeps x ≡ keeps q = λ q x tied. ap keeps (sym (same q x tied)) in
      let es = filter (λ e. keeps e.0) (entries m) in
      let rises : IsStrictlySortedBy R (keys_of es) =
      rises_by es (is_sorted-where_key R keeps (entries m) (entries_sorted m)) in
      put_in [] es rises
      ∙ same_map o same (from_entries {R = R} es) (retain_keys m keeps) (λ q.
      get-from_entries o es q ∙ find-where_key R keeps q (alike q) (entries m)
      ∙ ap (λ found. cond (keeps q) found None) (sym (get-entries m q)) ∙ sym (get-retain_keys m keeps q (alike q)))

  -- entries in order, put into an empty map in turn, make the map that they are seen as
  pub put_in_all : (es : List (K × X)) → IsStrictlySortedBy R (keys_of es)
      → with_entries (empty {X = X} {R = R}) es ≡ from_entries {R = R} es
  put_in_all es rises = put_in [] es rises
