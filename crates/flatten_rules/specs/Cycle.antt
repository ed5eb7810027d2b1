-- Cycles of a module table: walks of instances that return to the module that they start from. This
-- project's own.
use Rattle.std.specs.Prelude.{◌≡◌, ℕ, ◌<◌, ◌≤◌, List, ◌∷◌, length, Option, Some, None, IsSomeAnd, slice_get}
use Rattle.emh_base.specs.declared.ids.InstId.{InstId}
use Rattle.emh_base.specs.declared.plain.PModule.{PModule}
use Rattle.emh_base.specs.declared.plain.Plain.{Plain}
use Rattle.flatten_rules.specs.Unfolding.{module_up}

-- a walk of at least one instance leads from the module back to it
abbrev pub OnCycle : Plain → PModule → Type 0
OnCycle M m = (i : InstId) × (up : List InstId) × (module_up M m.id (i ∷ up) ≡ Some m)

-- of the modules from one place up to another none is on a cycle
abbrev pub NoneOnCycle : Plain → ℕ → ℕ → Type 0
NoneOnCycle M from to =
    (k : ℕ) (m : PModule) → from ≤ k → k < to → slice_get M.modules k ≡ Some m → OnCycle M m → ⊥

-- the first place, at or past one, of a module on a cycle; none where no module from there on is on
-- one
abbrev pub IsFirstOnCycle : Plain → ℕ → Option ℕ → Type 0
IsFirstOnCycle M from None = NoneOnCycle M from (length M.modules)
IsFirstOnCycle M from (Some k) =
    (from ≤ k) × IsSomeAnd (slice_get M.modules k) (OnCycle M) × NoneOnCycle M from k
