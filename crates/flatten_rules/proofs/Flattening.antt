-- What is unfolded, occurrence by occurrence.
use Rattle.std.proofs.Common.{◌≡◌, Bool, true, false, cond, List, [], ◌∷◌, ◌++◌, filter, flat_map, refl, ap}
use Rattle.emh_base.specs.declared.ids.ModId.{ModId}
use Rattle.emh_base.specs.declared.plain.Plain.{Plain}
use Rattle.flatten_rules.specs.Lookup.{module_of}
use Rattle.flatten_rules.specs.Unfolding.{Occurrence, occurrences}
use Rattle.flatten_rules.specs.Domains.{is_leaf, ports_of, pins_of_port, pins}
use Rattle.flatten_rules.specs.inside.Left.{pins_inside}

-- what is kept by a test and then flattened
pub flat_map-filter : {X Y : Type 0} (p : X → Bool) (g : X → List Y) (xs : List X) → flat_map (λ x. cond (p x) (g x) []) xs ≡ flat_map g (filter p xs)
flat_map-filter p g [] = refl
flat_map-filter p g (x ∷ xs) = elim (p x) as (λ b. cond b (g x) [] ++ flat_map (λ y. cond (p y) (g y) []) xs ≡ flat_map g (cond b (x ∷ filter p xs) (filter p xs))) [
  | true ↦ ap (λ ys. g x ++ ys) (flat_map-filter p g xs)
  | false ↦ flat_map-filter p g xs
]

-- the pins of all occurrences are those of the block instances
pub pins-all : (M : Plain) (top : ModId) → flat_map (pins_inside M) (occurrences M top) ≡ pins M top
pins-all M top = flat_map-filter (λ (o : Occurrence). is_leaf (module_of M o.1)) (λ (o : Occurrence). flat_map (pins_of_port M o) (ports_of (module_of M o.1))) (occurrences M top)
