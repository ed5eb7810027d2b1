use Rattle.std.specs.Prelude.{◌≡◌, ℕ, false, List, Option, find, MatchOption, bytes_eq}
use Rattle.emh_base.specs.declared.ids.ModId.{ModId}
use Rattle.emh_base.specs.declared.plain.PModule.{PModule}
use Rattle.emh_base.specs.declared.plain.Plain.{Plain}
use Rattle.flatten_rules.specs.Lookup.{module_of}
use Rattle.flatten_rules.specs.Limits.{IsWithin}
use Rattle.flatten_rules.specs.Sound.{IsSound}

-- the module is there and is no leaf
abbrev pub IsInner : Option PModule → Type 0
IsInner found = MatchOption found ⊥ (λ m. m.leaf ≡ false)

-- a table and its top, as a design has them
pub record IsGood (M : Plain) (top : ModId) : Type 0 where
  pub sound : IsSound M
  pub inner : IsInner (module_of M top)
  pub within : IsWithin M top

abbrev pub module_named : Plain → List ℕ → Option PModule
module_named M name = find (λ m. bytes_eq m.name name) M.modules

-- the module of that name may be the top of a design: it is there, no leaf, and the table is within
-- the limits at it
pub record Opens (M : Plain) (name : List ℕ) (top : ModId) : Type 0 where
  pub named : MatchOption (module_named M name) ⊥ (λ m. (m.id ≡ top) × (m.leaf ≡ false))
  pub within : IsWithin M top
