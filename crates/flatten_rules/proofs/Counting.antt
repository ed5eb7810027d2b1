-- Counting level by level.
use Rattle.std.proofs.Common.{◌≡◌, ◌≢◌, ℕ, zero, suc, ◌+◌, ◌-◌, ◌<◌, min, ◌==◌, List, [], ◌∷◌, map, length, get_or, slice_get, sum_by, Option, Some, None, IsSomeAnd, All, AllPairs, refl, sym, ap, ap₂, subst, ◌∙◌, add-one, arith}
use Rattle.std.proofs.lemmas.Option.{slice_get_within, get_or_from_slice_get}
use Rattle.std.proofs.lemmas.List.{get_or-map}
use Rattle.std.proofs.lemmas.List.Elements.{All-cons}
use Rattle.std.proofs.lemmas.List.Sums.{sum_by-cons}
use Rattle.flatten_rules.proofs.Sound.{All-find}
use Rattle.emh_base.specs.declared.ids.ModId.{ModId}
use Rattle.emh_base.specs.declared.plain.PInst.{PInst}
use Rattle.emh_base.specs.declared.plain.PModule.{PModule}
use Rattle.emh_base.specs.declared.plain.Plain.{Plain}
use Rattle.flatten_rules.specs.Lookup.{module_of, insts_of}
use Rattle.flatten_rules.specs.Counting.{total}
use Rattle.flatten_rules.proofs.Walks.{id-of_found, find-own}
use Rattle.flatten_rules.specs.inside.Levels.{Weight, weight_in, counted, level_of}

module _ (weight : Weight) (M : Plain) where
  below : ℕ → Option PModule → ℕ
  below levels m = sum_by (λ (inst : PInst). total (weight_in weight M) M inst.master levels) (insts_of m)

  pub counted-nowhere : (m : ModId) → counted weight M 0 m ≡ 0
  unfolding total
  counted-nowhere m = refl

  total-more : (m : ModId) (levels : ℕ) → total (weight_in weight M) M m (suc levels) ≡ weight m (module_of M m) + sum_by (λ (inst : PInst). total (weight_in weight M) M inst.master levels) (insts_of (module_of M m))
  unfolding total
  total-more m levels = refl

  pub counted-absent : (m : ModId) (levels : ℕ) → levels ≢ 0 → module_of M m ≡ None → counted weight M levels m ≡ min (weight m None) 4000001
  counted-absent m zero some absent = absurd (some refl)
  counted-absent m (suc levels) some absent =
      let nothing : total (weight_in weight M) M m (suc levels) ≡ weight m None + 0 = rw absent at (total-more m levels) in
      omega (arith, nothing)

  pub counted-above : (m : ModId) (x : PModule) (levels own sum : ℕ) → module_of M m ≡ Some x → own ≡ min (weight m (Some x)) 4000001
      → sum ≡ min (sum_by (λ (inst : PInst). total (weight_in weight M) M inst.master levels) x.insts) 4000001
      → min (own + sum) 4000001 ≡ counted weight M (levels + 1) m
  counted-above m x levels own sum found is below =
      let more : total (weight_in weight M) M m (suc levels) ≡ weight m (Some x) + sum_by (λ (inst : PInst). total (weight_in weight M) M inst.master levels) x.insts = rw found at (total-more m levels) in
      rw (add-one levels) (omega (arith, more, is, below))

  some_and : {X : Type 0} (o : Option X) (P : X → Type 0) → IsSomeAnd o P → (x : X) × (o ≡ Some x) × P x
  some_and None P some = absurd some
  some_and (Some x) P some = (x, refl, some)

  pub counted-at : (levels : ℕ) (level : List ℕ) (id : ModId) (place : ℕ) → level ≡ level_of weight M levels → IsSomeAnd (slice_get M.modules place) (λ m. module_of M id ≡ Some m) → get_or level place 0 ≡ counted weight M levels id
  counted-at levels level id place known found =
      let there = some_and (slice_get M.modules place) (λ m. module_of M id ≡ Some m) found in
      let m : PModule = there.0 in
      let within : place < length M.modules = slice_get_within M.modules place m there.1 in
      let own : (get_or M.modules place m).id ≡ id = ap (λ (x : PModule). x.id) (get_or_from_slice_get M.modules place m m there.1) ∙ id-of_found M id m there.2 in
      ap (λ numbers. get_or numbers place 0) known
      ∙ get_or-map (λ (x : PModule). counted weight M levels x.id) M.modules place m 0 within
      ∙ ap (counted weight M levels) own

-- no module counts down to no level
pub level-nowhere : (weight : Weight) (M : Plain) → map (λ (m : PModule). 0) M.modules ≡ level_of weight M 0
unfolding total
level-nowhere weight M = refl

-- each module of a table in order is found by its id
pub found-own : (M : Plain) (m : PModule) (k : ℕ) → AllPairs (λ (a b : PModule). a.id.0 < b.id.0) M.modules → (modules : List PModule) → modules ≡ M.modules → k < length modules → m ≡ get_or modules k m → module_of M m.id ≡ Some m
found-own M m k rise modules all within at =
    let Own : PModule → Type 0 = λ x. module_of M x.id ≡ Some x in
    let There : List PModule → Type 0 = λ xs. (k < length xs) × (m ≡ get_or xs k m) in
    let there : There M.modules = subst There all (within, at) in
    subst Own (sym there.1) (find-own (λ (x : PModule). x.id.0) M.modules rise k m there.0)

pub counted-below : (weight : Weight) (M : Plain) (m : ModId) (x : PModule) (levels own sum : ℕ) → levels ≢ 0 → module_of M m ≡ Some x
    → own ≡ min (weight x.id (Some x)) 4000001
    → sum ≡ min (sum_by (λ (inst : PInst). total (weight_in weight M) M inst.master (levels - 1)) x.insts) 4000001
    → min (own + sum) 4000001 ≡ counted weight M levels m
counted-below weight M m x levels own sum some found is rest =
    let same : own ≡ min (weight m (Some x)) 4000001 = is ∙ ap (λ id. min (weight id (Some x)) 4000001) (id-of_found M m x found) in
    let more : (levels - 1) + 1 ≡ levels = omega (arith, some) in
    counted-above weight M m x (levels - 1) own sum found same rest ∙ ap (λ n. counted weight M n m) more

-- once no number changes, none changes any more

pub same-each : {X : Type 0} (f g : X → ℕ) (xs : List X) → map f xs ≡ map g xs → All (λ x. f x ≡ g x) xs
same-each f g [] same = λ i d within. absurd (omega arith)
same-each f g (x ∷ xs) same =
    let here : f x ≡ g x = cc in
    let more : map f xs ≡ map g xs = cc in
    All-cons (λ y. f y ≡ g y) x xs here (same-each f g xs more)

pub map-each : {X : Type 0} (f g : X → ℕ) → ((x : X) → f x ≡ g x) → (xs : List X) → map f xs ≡ map g xs
map-each f g same [] = refl
map-each f g same (x ∷ xs) = ap₂ (λ n ns. n ∷ ns) (same x) (map-each f g same xs)

capped-sum : {X : Type 0} (f : X → ℕ) (xs : List X) → min (sum_by f xs) 4000001 ≡ min (sum_by (λ x. min (f x) 4000001) xs) 4000001
capped-sum f [] = refl
capped-sum f (x ∷ xs) = omega (arith, sum_by-cons f x xs, sum_by-cons (λ y. min (f y) 4000001) x xs, capped-sum f xs)

sum-each : {X : Type 0} (a b : X → ℕ) → ((x : X) → a x ≡ b x) → (xs : List X) → sum_by a xs ≡ sum_by b xs
sum-each a b same [] = refl
sum-each a b same (x ∷ xs) = omega (arith, same x, sum_by-cons a x xs, sum_by-cons b x xs, sum-each a b same xs)

module _ (weight : Weight) (M : Plain) where
  all-total : (m : ModId) (levels : ℕ) → total (weight_in weight M) M m (suc levels) ≡ weight m (module_of M m) + sum_by (λ (inst : PInst). total (weight_in weight M) M inst.master levels) (insts_of (module_of M m))
  unfolding total
  all-total m levels = refl

  step : (n : ℕ) → ((id : ModId) → counted weight M (suc n) id ≡ counted weight M n id) → (id : ModId) → counted weight M (suc (suc n)) id ≡ counted weight M (suc n) id
  step n same id =
      let T : PInst → ℕ = λ inst. total (weight_in weight M) M inst.master (suc n) in
      let U : PInst → ℕ = λ inst. total (weight_in weight M) M inst.master n in
      let insts : List PInst = insts_of (module_of M id) in
      omega (arith, all-total id (suc n), all-total id n, capped-sum T insts, capped-sum U insts, sum-each (λ inst. min (T inst) 4000001) (λ inst. min (U inst) 4000001) (λ inst. same inst.master) insts)

  steps : (n : ℕ) → ((id : ModId) → counted weight M (suc n) id ≡ counted weight M n id) → (j : ℕ) (id : ModId) → counted weight M (suc (j + n)) id ≡ counted weight M (j + n) id
  steps n same zero id = let none : 0 + n ≡ n = omega arith in rw none (same id)
  steps n same (suc j) id =
      let more : (x : ModId) → counted weight M (suc (suc (j + n))) x ≡ counted weight M (suc (j + n)) x = step (j + n) (steps n same j) in
      let next : suc j + n ≡ suc (j + n) = omega arith in
      rw next (more id)

  reach : (n : ℕ) → ((id : ModId) → counted weight M (suc n) id ≡ counted weight M n id) → (j : ℕ) (id : ModId) → counted weight M (j + n) id ≡ counted weight M n id
  reach n same zero id = let none : 0 + n ≡ n = omega arith in ap (λ k. counted weight M k id) none
  reach n same (suc j) id =
      let next : suc j + n ≡ suc (j + n) = omega arith in
      rw next (steps n same j id ∙ reach n same j id)

  same-found : (n : ℕ) (id : ModId) → n ≢ 0 → All (λ (m : PModule). counted weight M (suc n) m.id ≡ counted weight M n m.id) M.modules → (found : Option PModule) → found ≡ module_of M id → counted weight M (suc n) id ≡ counted weight M n id
  same-found n id some all None at = counted-absent weight M id (suc n) (λ never. absurd (omega (arith, never))) (sym at) ∙ sym (counted-absent weight M id n some (sym at))
  same-found n id some all (Some m) at =
      let Same : ModId → Type 0 = λ x. counted weight M (suc n) x ≡ counted weight M n x in
      subst Same (id-of_found M id m (sym at)) (All-find (λ (x : PModule). counted weight M (suc n) x.id ≡ counted weight M n x.id) (λ x. x.id.0 == id.0) M.modules m all (sym at))

  pub level-stays : (n : ℕ) (level more : List ℕ) → n ≢ 0 → n < 257 → level ≡ level_of weight M n → more ≡ level_of weight M (n + 1) → more ≡ level → level ≡ level_of weight M 257
  level-stays n level more some few known next same =
      let longer : n + 1 ≡ suc n = omega arith in
      let lists : level_of weight M (suc n) ≡ level_of weight M n = rw longer at (sym next ∙ same ∙ known) in
      let all = same-each (λ (m : PModule). counted weight M (suc n) m.id) (λ (m : PModule). counted weight M n m.id) M.modules lists in
      let each : (id : ModId) → counted weight M (suc n) id ≡ counted weight M n id = λ id. same-found n id some all (module_of M id) refl in
      let last : (257 - n) + n ≡ 257 = omega (arith, few) in
      let reached : (id : ModId) → counted weight M 257 id ≡ counted weight M n id = λ id. rw last at (reach n each (257 - n) id) in
      known ∙ sym (map-each (λ (m : PModule). counted weight M 257 m.id) (λ (m : PModule). counted weight M n m.id) (λ m. reached m.id) M.modules)
