-- Walks of instances in a table, as walks in the graph of the modules' places.
use Rattle.std.proofs.Common.{◌≡◌, ℕ, ◌+◌, ◌<◌, ◌≤◌, ◌==◌, ◌⊎◌, inl, inr, zero, suc, Bool, false, cond, List, [], ◌∷◌, ◌++◌, length, take, get_or, slice_get, filter_map, option_to_list, is_some, Option, Some, None, IsSomeAnd, All, AllPairs, Contains, refl, sym, ap, ◌∙◌, subst, arith, ⊎_elim}
use Rattle.std.specs.List.{position_or_len, cons_option}
use Rattle.std.proofs.lemmas.Bool.{cases_lt, lt-ltb, true≢false}
use Rattle.std.proofs.lemmas.Option.{slice_get_within, get_or_from_slice_get}
use Rattle.std.proofs.lemmas.List.{length-map, get_or-map, get_or_default, take_more}
use Rattle.std.proofs.lemmas.List.Elements.{All-contains, All-nil, All-cons, Contains-append_cases, Contains-append_right, Contains-get_or, filter_map-append}
use Rattle.std.proofs.lemmas.List.Folds.{find_at}
use Rattle.emh_base.specs.declared.ids.ModId.{ModId}
use Rattle.emh_base.specs.declared.ids.InstId.{InstId}
use Rattle.emh_base.specs.declared.plain.PInst.{PInst}
use Rattle.emh_base.specs.declared.plain.PModule.{PModule}
use Rattle.emh_base.specs.declared.plain.Plain.{Plain}
use Rattle.flatten_rules.specs.Lookup.{module_of, place_of, inst_of}
use Rattle.flatten_rules.specs.Unfolding.{module_up}
use Rattle.flatten_rules.specs.Graph.{next, IsGraph, Leads, Reaches, IsFirstReturning, places_of, graph_of}
use Rattle.flatten_rules.specs.Cycle.{OnCycle, IsFirstOnCycle}
use Rattle.flatten_rules.proofs.Places.{item-there, found-at_place}
use Rattle.flatten_rules.proofs.Walks.{last_step, up-own, find-own, same-some}

-- one more item
pub filter_map-more : {X Y : Type 0} (h : X → Option Y) (xs : List X) (i : ℕ) (x : X) → i < length xs → x ≡ get_or xs i x → filter_map h (take (i + 1) xs) ≡ filter_map h (take i xs) ++ option_to_list (h x)
filter_map-more h xs i x within at =
    let last : take (i + 1) xs ≡ take i xs ++ x ∷ [] = take_more xs i x within ∙ ap (λ y. take i xs ++ y ∷ []) (sym at) in
    ap (filter_map h) last ∙ filter_map-append h (take i xs) (x ∷ []) ∙ ap (λ ys. filter_map h (take i xs) ++ ys) (one (h x))
  where
    one : {Y : Type 0} (o : Option Y) → cons_option o [] ≡ option_to_list o
    one None = refl
    one (Some y) = refl

contains-front : {Y : Type 0} (o : Option Y) (ys : List Y) (y : Y) → o ≡ Some y → Contains (cons_option o ys) y
contains-front None ys y is = let never : None ≡ Some y = is in absurd (cc)
contains-front (Some z) ys y is = (0, omega arith, let same : z ≡ y = cc in same)

contains-behind : {Y : Type 0} (o : Option Y) (ys : List Y) (y : Y) → Contains ys y → Contains (cons_option o ys) y
contains-behind None ys y has = has
contains-behind (Some z) ys y has = Contains-append_right (z ∷ []) ys y has

contains-split : {Y : Type 0} (o : Option Y) (ys : List Y) (y : Y) → Contains (cons_option o ys) y → (o ≡ Some y) ⊎ Contains ys y
contains-split None ys y has = inr has
contains-split (Some z) ys y has = ⊎_elim
    (λ (front : Contains (z ∷ []) y). let same : z ≡ y = All-contains (λ x. z ≡ x) (z ∷ []) y (All-cons (λ x. z ≡ x) z [] refl (All-nil (λ x. z ≡ x))) front in inl (ap Some same))
    (λ (behind : Contains ys y). inr behind)
    (Contains-append_cases (z ∷ []) ys y has)

-- what an item gives is kept
pub contains-kept : {X Y : Type 0} (h : X → Option Y) (xs : List X) (k : ℕ) (x : X) (y : Y) → k < length xs → get_or xs k x ≡ x → h x ≡ Some y → Contains (filter_map h xs) y
contains-kept h [] k x y within at gives = absurd (omega arith)
contains-kept h (z ∷ xs) zero x y within at gives = contains-front (h z) (filter_map h xs) y (ap h at ∙ gives)
contains-kept h (z ∷ xs) (suc k) x y within at gives = contains-behind (h z) (filter_map h xs) y (contains-kept h xs k x y (omega arith) at gives)

-- what is kept comes from an item
pub record From {X Y : Type 0} (h : X → Option Y) (xs : List X) (y : Y) : Type 0 where
  pub place : ℕ
  pub item : X
  pub within : place < length xs
  pub at : get_or xs place item ≡ item
  pub gives : h item ≡ Some y

kept-from : {X Y : Type 0} (h : X → Option Y) (xs : List X) (y : Y) → Contains (filter_map h xs) y → From h xs y
kept-from h [] y has = absurd (omega (arith, has.1))
kept-from h (z ∷ xs) y has = ⊎_elim
    (λ (front : h z ≡ Some y). record { place = 0; item = z; within = omega arith; at = refl; gives = front })
    (λ (behind : Contains (filter_map h xs) y).
    let from = kept-from h xs y behind in
    record { place = suc from.place; item = from.item; within = omega (arith, from.within); at = from.at; gives = from.gives })
    (contains-split (h z) (filter_map h xs) y has)

-- The place of a module in a table.
some-and : {X : Type 0} (o : Option X) (P : X → Type 0) → IsSomeAnd o P → (x : X) × (o ≡ Some x) × P x
some-and None P some = absurd some
some-and (Some x) P some = (x, refl, some)

pub module-at : (M : Plain) (id : ModId) (k : ℕ) → place_of M id ≡ Some k → (m : PModule) × (slice_get M.modules k ≡ Some m) × (module_of M id ≡ Some m)
module-at M id k at = some-and (slice_get M.modules k) (λ m. module_of M id ≡ Some m) (found-at_place (λ m. m.id.0 == id.0) M.modules (Some k) (sym at))

pub place-at : (M : Plain) (id : ModId) (m : PModule) → module_of M id ≡ Some m → (k : ℕ) × (place_of M id ≡ Some k) × (slice_get M.modules k ≡ Some m)
place-at M id m found =
    let test : PModule → Bool = λ x. x.id.0 == id.0 in
    let k : ℕ = position_or_len test M.modules in
    let at : slice_get M.modules k ≡ Some m = sym (find_at test M.modules) ∙ found in
    let within : k < length M.modules = slice_get_within M.modules k m at in
    (k, ap (λ b. cond b (Some k) None) (lt-ltb k (length M.modules) within), at)

module _ (M : Plain) (rise : AllPairs (λ (a b : PModule). a.id.0 < b.id.0) M.modules) where
  own-at : (k : ℕ) (m : PModule) → slice_get M.modules k ≡ Some m → module_of M m.id ≡ Some m
  own-at k m at =
      let here : get_or M.modules k m ≡ m = get_or_from_slice_get M.modules k m m at in
      let Own : PModule → Type 0 = λ x. module_of M x.id ≡ Some x in
      subst Own here (find-own (λ (x : PModule). x.id.0) M.modules rise k m (slice_get_within M.modules k m at))

  -- a module has one place
  one-place : (j k : ℕ) (m : PModule) → slice_get M.modules j ≡ Some m → slice_get M.modules k ≡ Some m → j ≡ k
  one-place j k m at_j at_k =
      let in_j = slice_get_within M.modules j m at_j in
      let in_k = slice_get_within M.modules k m at_k in
      let here_j : (get_or M.modules j m).id.0 ≡ m.id.0 = ap (λ (x : PModule). x.id.0) (get_or_from_slice_get M.modules j m m at_j) in
      let here_k : (get_or M.modules k m).id.0 ≡ m.id.0 = ap (λ (x : PModule). x.id.0) (get_or_from_slice_get M.modules k m m at_k) in
      ⊎_elim (λ (below : j < k). absurd (omega (arith, rise j k m below in_k)))
      (λ (from : k ≤ j). ⊎_elim (λ (above : k < j). absurd (omega (arith, rise k j m above in_j))) (λ (to : j ≤ k). omega (arith, from, to)) (cases_lt k j))
      (cases_lt j k)

  edges-of : (b : ℕ) (m : PModule) → slice_get M.modules b ≡ Some m → next (graph_of M) b ≡ places_of M m.insts
  edges-of b m at =
      get_or-map (λ (x : PModule). places_of M x.insts) M.modules b m [] (slice_get_within M.modules b m at)
      ∙ ap (λ (x : PModule). places_of M x.insts) (get_or_from_slice_get M.modules b m m at)

  -- an instance is an edge
  edge-to : (b : ℕ) (m : PModule) (i : InstId) (inst : PInst) (z : PModule) → slice_get M.modules b ≡ Some m → inst_of m i ≡ Some inst → module_of M inst.master ≡ Some z → (c : ℕ) × (slice_get M.modules c ≡ Some z) × Contains (next (graph_of M) b) c
  edge-to b m i inst z at found master =
      let test : PInst → Bool = λ x. x.id.0 == i.0 in
      let k : ℕ = position_or_len test m.insts in
      let here : slice_get m.insts k ≡ Some inst = sym (find_at test m.insts) ∙ found in
      let place = place-at M inst.master z master in
      let has : Contains (places_of M m.insts) place.0 = contains-kept (λ (x : PInst). place_of M x.master) m.insts k inst place.0 (slice_get_within m.insts k inst here) (get_or_from_slice_get m.insts k inst inst here) place.1 in
      (place.0, place.2, subst (λ edges. Contains edges place.0) (sym (edges-of b m at)) has)

  -- a walk of instances is a walk in the graph
  to-places : (a : ℕ) (s : PModule) → slice_get M.modules a ≡ Some s → (i : InstId) (up : List InstId) (z : PModule) → module_up M s.id (i ∷ up) ≡ Some z → (c : ℕ) × (slice_get M.modules c ≡ Some z) × Reaches (graph_of M) a c
  unfolding module_up
  to-places a s at i [] z leads =
      let step = last_step M s.id i [] z leads in
      let same : s ≡ step.holder = same-some (module_of M s.id) s step.holder (own-at a s at) step.above in
      let here : slice_get M.modules a ≡ Some step.holder = at ∙ ap Some same in
      let edge = edge-to a step.holder i step.inst z here step.found step.master in
      (edge.0, edge.1, ([], edge.2))
  to-places a s at i (j ∷ up) z leads =
      let step = last_step M s.id i (j ∷ up) z leads in
      let before = to-places a s at j up step.holder step.above in
      let edge = edge-to before.0 step.holder i step.inst z before.1 step.found step.master in
      (edge.0, edge.1, (before.0 ∷ before.2.0, (before.2.1, edge.2)))

  -- an edge is an instance
  record Edge (m : PModule) (c : ℕ) : Type 0 where
    inst : PInst
    found : inst_of m inst.id ≡ Some inst
    z : PModule
    master : module_of M inst.master ≡ Some z
    at : slice_get M.modules c ≡ Some z

  module _ (insts : All (λ (m : PModule). AllPairs (λ (a b : PInst). a.id.0 < b.id.0) m.insts) M.modules) where
    insts-rise : (b : ℕ) (m : PModule) → slice_get M.modules b ≡ Some m → AllPairs (λ (a b : PInst). a.id.0 < b.id.0) m.insts
    insts-rise b m at =
        let Rise : PModule → Type 0 = λ x. AllPairs (λ (a b : PInst). a.id.0 < b.id.0) x.insts in
        subst Rise (get_or_from_slice_get M.modules b m m at) (insts b m (slice_get_within M.modules b m at))

    edge-from : (b : ℕ) (m : PModule) (c : ℕ) → slice_get M.modules b ≡ Some m → Contains (next (graph_of M) b) c → Edge m c
    edge-from b m c at has =
        let from = kept-from (λ (x : PInst). place_of M x.master) m.insts c (subst (λ edges. Contains edges c) (edges-of b m at) has) in
        let inst : PInst = from.item in
        let own = find-own (λ (x : PInst). x.id.0) m.insts (insts-rise b m at) from.place inst from.within in
        let Own : PInst → Type 0 = λ x. inst_of m x.id ≡ Some x in
        let to = module-at M inst.master c from.gives in
        record { inst = inst; found = subst Own from.at own; z = to.0; master = to.2; at = to.1 }

    from-places : (a : ℕ) (s : PModule) → slice_get M.modules a ≡ Some s → (via : List ℕ) (c : ℕ) → Leads (graph_of M) a via c → (i : InstId) × (up : List InstId) × (z : PModule) × (slice_get M.modules c ≡ Some z) × (module_up M s.id (i ∷ up) ≡ Some z)
    unfolding module_up
    from-places a s at [] c leads =
        let edge = edge-from a s c at leads in
        (edge.inst.id, [], edge.z, edge.at, rw (own-at a s at, edge.found) edge.master)
    from-places a s at (b ∷ via) c leads =
        let before = from-places a s at via b leads.0 in
        let edge = edge-from b before.2 c before.3 leads.1 in
        (edge.inst.id, before.0 ∷ before.1, edge.z, edge.at, rw (before.4, edge.found) edge.master)

    on_cycle-from_reaches : (k : ℕ) (m : PModule) → slice_get M.modules k ≡ Some m → Reaches (graph_of M) k k → OnCycle M m
    on_cycle-from_reaches k m at reaches =
        let walk = from-places k m at reaches.0 k reaches.1 in
        let same : walk.2 ≡ m = same-some (slice_get M.modules k) walk.2 m walk.3 at in
        (walk.0, walk.1, walk.4 ∙ ap Some same)

  reaches-from_on_cycle : (k : ℕ) (m : PModule) → slice_get M.modules k ≡ Some m → OnCycle M m → Reaches (graph_of M) k k
  reaches-from_on_cycle k m at cycle =
      let walk = to-places k m at cycle.0 cycle.1 m cycle.2 in
      subst (λ c. Reaches (graph_of M) k c) (one-place walk.0 k m walk.1 at) walk.2

  place-within : (insts : List PInst) (c : ℕ) → Contains (places_of M insts) c → c < length M.modules
  place-within insts c has =
      let from = kept-from (λ (x : PInst). place_of M x.master) insts c has in
      let to = module-at M from.item.master c from.gives in
      slice_get_within M.modules c to.0 to.1

  -- each edge of the graph leads to a place in the table
  pub is_graph : IsGraph (graph_of M)
  is_graph k d within =
      let many : length (graph_of M) ≡ length M.modules = length-map M.modules (λ (x : PModule). places_of M x.insts) in
      let there = item-there M.modules k (omega arith) in
      let edges : get_or (graph_of M) k d ≡ places_of M there.0.insts = get_or_default (graph_of M) k d [] within ∙ edges-of k there.0 there.1 in
      rw edges (λ j e inside. omega (arith, many, place-within there.0.insts (get_or (places_of M there.0.insts) j e) (Contains-get_or (places_of M there.0.insts) j e inside)))

  pub first-from_returning : (insts : All (λ (m : PModule). AllPairs (λ (a b : PInst). a.id.0 < b.id.0) m.insts) M.modules) (from : ℕ) (first : Option ℕ) → IsFirstReturning (graph_of M) from first → IsFirstOnCycle M from first
  first-from_returning insts from None none = λ k m low high at cycle. none k low (omega (arith, high, length-map M.modules (λ (x : PModule). places_of M x.insts))) (reaches-from_on_cycle k m at cycle)
  first-from_returning insts from (Some a) first =
      let there = item-there M.modules a (omega (arith, first.1, length-map M.modules (λ (x : PModule). places_of M x.insts))) in (
        first.0,
        rw there.1 (on_cycle-from_reaches insts a there.0 there.1 first.2),
        λ k m low high at cycle. first.3 k low high (reaches-from_on_cycle k m at cycle),
      )

-- no module at all is on a cycle where none is from the first place on
pub no_cycle-from_none : (M : Plain) (first : Option ℕ) → IsFirstOnCycle M 0 first → is_some first ≡ false → (m : PModule) → OnCycle M m → ⊥
no_cycle-from_none M None none is m cycle =
    let place = place-at M m.id m (up-own M m.id (cycle.0 ∷ cycle.1) m cycle.2) in
    none place.0 m (omega arith) (slice_get_within M.modules place.0 m place.2) place.2 cycle
no_cycle-from_none M (Some k) first is m cycle = absurd (true≢false is)

pub none-from_no_cycle : (M : Plain) (first : Option ℕ) → IsFirstOnCycle M 0 first → ((m : PModule) → OnCycle M m → ⊥) → is_some first ≡ false
none-from_no_cycle M None none no_cycle = refl
none-from_no_cycle M (Some k) first no_cycle =
    let there = some-and (slice_get M.modules k) (OnCycle M) first.1 in
    absurd (no_cycle there.0 there.2)
