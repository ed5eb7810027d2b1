-- Heights level by level.
use Rattle.std.proofs.Common.{◌≡◌, ℕ, zero, suc, ◌+◌, ◌-◌, ◌<◌, ◌≤◌, ◌==◌, max, nat_lt, List, [], ◌∷◌, ◌++◌, map, length, get_or, take, slice_get, Option, Some, None, IsSomeAnd, All, refl, sym, ap, subst, ◌∙◌, add-one, arith}
use Rattle.std.specs.List.{list_any}
use Rattle.std.proofs.lemmas.Option.{slice_get_within, get_or_from_slice_get}
use Rattle.std.proofs.lemmas.List.{get_or-map}
use Rattle.std.proofs.Math.Seq.{take-suc}
use Rattle.emh_base.specs.declared.ids.ModId.{ModId}
use Rattle.emh_base.specs.declared.plain.PInst.{PInst}
use Rattle.emh_base.specs.declared.plain.PModule.{PModule}
use Rattle.emh_base.specs.declared.plain.Plain.{Plain}
use Rattle.flatten_rules.specs.Lookup.{module_of, insts_of}
use Rattle.flatten_rules.specs.Counting.{height, greatest_by}
use Rattle.flatten_rules.proofs.Sound.{All-find}
use Rattle.flatten_rules.proofs.Walks.{id-of_found}
use Rattle.flatten_rules.specs.inside.Levels.{heights}
use Rattle.flatten_rules.proofs.Counting.{same-each, map-each}

greatest-le : {X : Type 0} (f : X → ℕ) (n : ℕ) → ((x : X) → f x ≤ n) → (xs : List X) → greatest_by f xs ≤ n
greatest-le f n low [] = omega arith
greatest-le f n low (x ∷ xs) = omega (arith, low x, greatest-le f n low xs)

pub greatest-push : {X : Type 0} (f : X → ℕ) (xs : List X) (x : X) → greatest_by f (xs ++ x ∷ []) ≡ max (f x) (greatest_by f xs)
greatest-push f [] x = refl
greatest-push f (y ∷ xs) x = omega (arith, greatest-push f xs x)

pub greatest-same : {X : Type 0} (f g : X → ℕ) → ((x : X) → f x ≡ g x) → (xs : List X) → greatest_by f xs ≡ greatest_by g xs
greatest-same f g same [] = refl
greatest-same f g same (x ∷ xs) = omega (arith, same x, greatest-same f g same xs)

-- the greatest of one item more
pub greatest-more : {X : Type 0} (f : X → ℕ) (xs : List X) (i : ℕ) (d : X) → i < length xs → greatest_by f (take (i + 1) xs) ≡ max (f (get_or xs i d)) (greatest_by f (take i xs))
greatest-more f xs i d within = rw (add-one i, take-suc xs i d within) (greatest-push f (take i xs) (get_or xs i d))

pub height-low : (M : Plain) (levels : ℕ) (m : ModId) → height M m levels ≤ levels
unfolding height
height-low M zero m = omega arith
height-low M (suc levels) m =
    greatest-le (λ (inst : PInst). suc (height M inst.master levels)) (suc levels) (λ inst. omega (arith, height-low M levels inst.master)) (insts_of (module_of M m))

pub height-more : (M : Plain) (m : ModId) (levels : ℕ) → height M m (suc levels) ≡ greatest_by (λ (inst : PInst). suc (height M inst.master levels)) (insts_of (module_of M m))
unfolding height
height-more M m levels = refl

pub height-absent : (M : Plain) (m : ModId) (levels : ℕ) → module_of M m ≡ None → height M m levels ≡ 0
unfolding height
height-absent M m zero absent = refl
height-absent M m (suc levels) absent = rw absent refl

pub height-above : (M : Plain) (m : ModId) (x : PModule) (levels : ℕ) → module_of M m ≡ Some x → greatest_by (λ (inst : PInst). height M inst.master levels + 1) x.insts ≡ height M m (levels + 1)
height-above M m x levels found =
    let more : height M m (suc levels) ≡ greatest_by (λ (inst : PInst). suc (height M inst.master levels)) x.insts = rw found at (height-more M m levels) in
    rw (add-one levels) (greatest-same (λ (inst : PInst). height M inst.master levels + 1) (λ (inst : PInst). suc (height M inst.master levels)) (λ inst. add-one (height M inst.master levels)) x.insts ∙ sym more)

some_and : {X : Type 0} (o : Option X) (P : X → Type 0) → IsSomeAnd o P → (x : X) × (o ≡ Some x) × P x
some_and None P some = absurd some
some_and (Some x) P some = (x, refl, some)

pub height-at : (M : Plain) (levels : ℕ) (level : List ℕ) (id : ModId) (place : ℕ) → level ≡ heights M levels → IsSomeAnd (slice_get M.modules place) (λ m. module_of M id ≡ Some m) → get_or level place 0 ≡ height M id levels
height-at M levels level id place known found =
    let there = some_and (slice_get M.modules place) (λ m. module_of M id ≡ Some m) found in
    let m : PModule = there.0 in
    let within : place < length M.modules = slice_get_within M.modules place m there.1 in
    let own : (get_or M.modules place m).id ≡ id = ap (λ (x : PModule). x.id) (get_or_from_slice_get M.modules place m m there.1) ∙ id-of_found M id m there.2 in
    ap (λ numbers. get_or numbers place 0) known
    ∙ get_or-map (λ (x : PModule). height M x.id levels) M.modules place m 0 within
    ∙ ap (λ at. height M at levels) own

pub height-nowhere : (M : Plain) → map (λ (m : PModule). 0) M.modules ≡ heights M 0
unfolding height
height-nowhere M = refl

pub any-map : {X : Type 0} (f : X → ℕ) (xs : List X) → list_any (λ n. nat_lt 256 n) (map f xs) ≡ list_any (λ x. nat_lt 256 (f x)) xs
any-map f [] = refl
any-map f (x ∷ xs) = rw (any-map f xs) refl

-- once no height changes, none changes any more

module _ (M : Plain) where
  step : (n : ℕ) → ((id : ModId) → height M id (suc n) ≡ height M id n) → (id : ModId) → height M id (suc (suc n)) ≡ height M id (suc n)
  step n same id =
      height-more M id (suc n)
      ∙ greatest-same (λ (inst : PInst). suc (height M inst.master (suc n))) (λ (inst : PInst). suc (height M inst.master n)) (λ inst. ap suc (same inst.master)) (insts_of (module_of M id))
      ∙ sym (height-more M id n)

  steps : (n : ℕ) → ((id : ModId) → height M id (suc n) ≡ height M id n) → (j : ℕ) (id : ModId) → height M id (suc (j + n)) ≡ height M id (j + n)
  steps n same zero id = let none : 0 + n ≡ n = omega arith in rw none (same id)
  steps n same (suc j) id =
      let more : (x : ModId) → height M x (suc (suc (j + n))) ≡ height M x (suc (j + n)) = step (j + n) (steps n same j) in
      let next : suc j + n ≡ suc (j + n) = omega arith in
      rw next (more id)

  reach : (n : ℕ) → ((id : ModId) → height M id (suc n) ≡ height M id n) → (j : ℕ) (id : ModId) → height M id (j + n) ≡ height M id n
  reach n same zero id = let none : 0 + n ≡ n = omega arith in ap (height M id) none
  reach n same (suc j) id =
      let next : suc j + n ≡ suc (j + n) = omega arith in
      rw next (steps n same j id ∙ reach n same j id)

  same-found : (n : ℕ) (id : ModId) → All (λ (m : PModule). height M m.id (suc n) ≡ height M m.id n) M.modules → (found : Option PModule) → found ≡ module_of M id → height M id (suc n) ≡ height M id n
  same-found n id all None at = height-absent M id (suc n) (sym at) ∙ sym (height-absent M id n (sym at))
  same-found n id all (Some m) at =
      let Same : ModId → Type 0 = λ x. height M x (suc n) ≡ height M x n in
      subst Same (id-of_found M id m (sym at)) (All-find (λ (x : PModule). height M x.id (suc n) ≡ height M x.id n) (λ x. x.id.0 == id.0) M.modules m all (sym at))

  pub heights-stay : (n : ℕ) (level more : List ℕ) → n < 257 → level ≡ heights M n → more ≡ heights M (n + 1) → more ≡ level → level ≡ heights M 257
  heights-stay n level more few known next same =
      let longer : n + 1 ≡ suc n = omega arith in
      let lists : heights M (suc n) ≡ heights M n = rw longer at (sym next ∙ same ∙ known) in
      let all = same-each (λ (m : PModule). height M m.id (suc n)) (λ (m : PModule). height M m.id n) M.modules lists in
      let each : (id : ModId) → height M id (suc n) ≡ height M id n = λ id. same-found n id all (module_of M id) refl in
      let last : (257 - n) + n ≡ 257 = omega (arith, few) in
      let reached : (id : ModId) → height M id 257 ≡ height M id n = λ id. rw last at (reach n each (257 - n) id) in
      known ∙ sym (map-each (λ (m : PModule). height M m.id 257) (λ (m : PModule). height M m.id n) (λ m. reached m.id) M.modules)
