-- A change of the one module of an id.
use Rattle.std.proofs.Common.{◌≡◌, zero, suc, ◌==◌, ◌<◌, Bool, true, false, cond, List, [], ◌∷◌, get_or, map, find, AllPairs, Option, Some, None, refl, sym, ap, ap₂, ◌∙◌, arith}
use Rattle.emh_base.specs.declared.ids.ModId.{ModId}
use Rattle.emh_base.specs.declared.plain.PModule.{PModule}
use Rattle.emh_base.specs.declared.plain.Plain.{Plain}
use Rattle.flatten_rules.specs.Lookup.{module_of}
use Rattle.flatten_rules.proofs.Places.{position-none, find-from_none}
use Rattle.flatten_rules.specs.Changes.{with_module}

module _ (id : ModId) where
  abbrev is : PModule → Bool
  is m = m.id.0 == id.0

  abbrev changed : (PModule → PModule) → PModule → PModule
  changed f m = cond (is m) (f m) m

  absent-head : (f : PModule → PModule) (b : Bool) (x : PModule) (xs : List PModule) (rest : Option PModule) → (rest ≡ None → map (changed f) xs ≡ xs) → cond b (Some x) rest ≡ None → cond b (f x) x ∷ map (changed f) xs ≡ x ∷ xs
  absent-head f true x xs rest more none = let never : Some x ≡ None = none in absurd (cc)
  absent-head f false x xs rest more none = ap (λ ys. x ∷ ys) (more none)

  absent-list : (f : PModule → PModule) (xs : List PModule) → find is xs ≡ None → map (changed f) xs ≡ xs
  absent-list f [] none = refl
  absent-list f (x ∷ xs) none = absent-head f (is x) x xs (find is xs) (absent-list f xs) none

  above : (x : PModule) (xs : List PModule) → AllPairs (λ (a b : PModule). a.id.0 < b.id.0) (x ∷ xs) → is x ≡ true → find is xs ≡ None
  above x xs rise here =
      sym (find-from_none is xs (sym (position-none is xs (λ k d within.
      let more : x.id.0 < (get_or xs k d).id.0 = rise zero (suc k) d (omega arith) (omega arith) in
      grind (arith)))))

  tail : (x : PModule) (xs : List PModule) → AllPairs (λ (a b : PModule). a.id.0 < b.id.0) (x ∷ xs) → AllPairs (λ (a b : PModule). a.id.0 < b.id.0) xs
  tail x xs rise i j d before within = rise (suc i) (suc j) d (omega arith) (omega arith)

  found-head : (f : PModule → PModule) (b : Bool) (x h : PModule) (xs : List PModule) (rest : Option PModule)
      → (b ≡ true → (g : PModule → PModule) → map (changed g) xs ≡ xs)
      → (rest ≡ Some h → map (changed (λ _. f h)) xs ≡ map (changed f) xs)
      → cond b (Some x) rest ≡ Some h
      → cond b (f h) x ∷ map (changed (λ _. f h)) xs ≡ cond b (f x) x ∷ map (changed f) xs
  found-head f true x h xs rest alone more found =
      let same : x ≡ h = cc in
      ap₂ (λ y ys. y ∷ ys) (ap f (sym same)) (alone refl (λ _. f h) ∙ sym (alone refl f))
  found-head f false x h xs rest alone more found = ap (λ ys. x ∷ ys) (more found)

  found-list : (f : PModule → PModule) (h : PModule) (xs : List PModule) → AllPairs (λ (a b : PModule). a.id.0 < b.id.0) xs → find is xs ≡ Some h → map (changed (λ _. f h)) xs ≡ map (changed f) xs
  found-list f h [] rise found = refl
  found-list f h (x ∷ xs) rise found =
      found-head f (is x) x h xs (find is xs) (λ here g. absent-list g xs (above x xs rise here)) (found-list f h xs (tail x xs rise)) found

-- the modules of an id are changed as the one that is found is
pub found_changed : (f : PModule → PModule) (M : Plain) (id : ModId) (holder : PModule) → AllPairs (λ (a b : PModule). a.id.0 < b.id.0) M.modules → Some holder ≡ module_of M id → with_module M id (λ _. f holder) ≡ with_module M id f
found_changed f M id holder rise found =
    let to : List PModule → Plain = λ modules. record M { modules = modules } in
    ap to (found-list id f holder M.modules rise (sym found))

-- where there is none, nothing changes
pub absent_changed : (f : PModule → PModule) (M : Plain) (id : ModId) → None ≡ module_of M id → M ≡ with_module M id f
absent_changed f M id absent =
    let to : List PModule → Plain = λ modules. record M { modules = modules } in
    sym (ap to (absent-list id f M.modules (sym absent)))
