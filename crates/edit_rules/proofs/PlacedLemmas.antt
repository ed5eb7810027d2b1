-- What is placed, by the list of placements.
use Rattle.std.proofs.Common.{◌≡◌, ◌↔◌, Bool, true, false, cond, List, [], ◌∷◌, Option, Some, IsTrue, IsSome, All, refl, sym, subst, arith}
use Rattle.std.specs.declared.cmp.Ordering.{Ordering}
use Rattle.std.specs.declared.cmp.Ordering.TheVariants.{Less, Equal, Greater}
use Rattle.std.specs.Ordering.{is_eq, eq_by_cmp}
use Rattle.std.specs.Cmp.{IsTotalOrder, eq_by_cmp_equiv}
use Rattle.std.specs.FinMap.{IsAntisymmetric, find, get, entries, get-entries}
use Rattle.std.proofs.lemmas.List.Elements.{All-head, All-tail, All-cons}
use Rattle.emh_base.specs.declared.ids.ModId.{ModId}
use Rattle.emh_base.specs.declared.ids.InstId.{InstId}
use Rattle.emh_base.specs.declared.placement.Placement.{Placement}
use Rattle.emh_base.specs.declared.plain.Plain.{Plain}
use Rattle.emh_base.specs.Path.{path_cmp, path_total}
use Rattle.emh_base.specs.Places.{PlacesByPath}
use Rattle.emh_base.proofs.PlacesLemmas.{path_apart}
use Rattle.edit_rules.specs.Spots.{is_leaf_path}

tied : (order : Ordering) → is_eq order ≡ true → order ≡ Equal
tied Less e = let never : false ≡ true = e in absurd (cc)
tied Equal e = refl
tied Greater e = let never : false ≡ true = e in absurd (cc)

later : {X : Type 0} (b : Bool) (x : X) (rest : Option X) → IsSome rest → IsSome (cond b (Some x) rest)
later true x rest some = refl
later false x rest some = some

module _ {K X : Type 0} (R : K → K → Ordering) (o : IsTotalOrder R) (same : IsAntisymmetric R) (Q : K → Type 0) where
  holds-by : (b : Bool) (q k : K) (x : X) (rest : Option X) → (b ≡ true → q ≡ k) → Q k → (IsSome rest → Q q) → IsSome (cond b (Some x) rest) → Q q
  holds-by true q k x rest is here more some = subst Q (sym (is refl)) here
  holds-by false q k x rest is here more some = more some

  -- what holds of the key of each entry holds of each key that is found
  found-holds : (es : List (K × X)) (q : K) → All (λ (e : K × X). Q e.0) es → IsSome (find R q es) → Q q
  found-holds [] q all some = let never : false ≡ true = some in absurd (cc)
  found-holds (e ∷ es) q all some =
      holds-by (eq_by_cmp R q e.0) q e.0 e.1 (find R q es) (λ is. same q e.0 (tied (R q e.0) is))
      (All-head (λ (x : K × X). Q x.0) e es all) (found-holds es q (All-tail (λ (x : K × X). Q x.0) e es all)) some

  own : (e : K × X) (es : List (K × X)) → IsSome (find R e.0 (e ∷ es))
  own e es = rw ((eq_by_cmp_equiv o).refl e.0) refl

  -- and the other way round
  holds-found : (es : List (K × X)) → ((q : K) → IsSome (find R q es) → Q q) → All (λ (e : K × X). Q e.0) es
  holds-found [] each = λ i d within. absurd (omega arith)
  holds-found (e ∷ es) each =
      All-cons (λ (x : K × X). Q x.0) e es (each e.0 (own e es))
      (holds-found es (λ q some. each q (later (eq_by_cmp R q e.0) e.1 (find R q es) some)))

module _ (M : Plain) (top : ModId) (places : PlacesByPath) where
  Q : List InstId → Type 0
  Q path = IsTrue (is_leaf_path M top path)

  pub placed-entries : All (λ (p : List InstId × Placement). IsTrue (is_leaf_path M top p.0)) (entries places)
      ↔ ((path : List InstId) → IsSome (get places path) → IsTrue (is_leaf_path M top path))
  unfolding Q
  placed-entries = (
    λ all path some. found-holds path_cmp path_total path_apart Q (entries places) path all (subst IsSome (get-entries places path) some),
    λ each. holds-found path_cmp path_total path_apart Q (entries places) (λ path some. each path (subst IsSome (sym (get-entries places path)) some)),
  )
