-- How far a module unfolds, counted once a module instead of once an occurrence. This project's
-- own.
use Rattle.std.specs.Prelude.{◌≡◌, ℕ, zero, suc, ◌+◌, max, List, [], ◌∷◌, sum_by}
use Rattle.emh_base.specs.declared.ids.ModId.{ModId}
use Rattle.emh_base.specs.declared.ids.InstId.{InstId}
use Rattle.emh_base.specs.declared.plain.Plain.{Plain}
use Rattle.flatten_rules.specs.Lookup.{module_of, insts_of}
use Rattle.flatten_rules.specs.Unfolding.{Occurrence, unfolded}

-- the greatest of the numbers of some items, 0 where there are none
abbrev pub greatest_by : {X : Type 0} → (X → ℕ) → List X → ℕ
greatest_by number [] = 0
greatest_by number (x ∷ xs) = max (number x) (greatest_by number xs)

-- the length of the longest walk of instances down from a module, at most that many
unfoldable pub height : Plain → ModId → ℕ → ℕ
height M m zero = 0
height M m (suc levels) =
    greatest_by (λ inst. suc (height M inst.master levels)) (insts_of (module_of M m))

-- the sum of a number of each module over an occurrence of module m and all below it, down to that
-- many levels
unfoldable pub total : (ModId → ℕ) → Plain → ModId → ℕ → ℕ
total number M m zero = 0
total number M m (suc levels) =
    number m + sum_by (λ inst. total number M inst.master levels) (insts_of (module_of M m))

-- The law of counting: this is the sum over the unfolding.
abbrev pub CountsOccurrences : Type 0
CountsOccurrences =
    (number : ModId → ℕ) (M : Plain) (levels : ℕ) (path : List InstId) (m : ModId)
    → sum_by (λ (o : Occurrence). number o.1) (unfolded M path m levels) ≡ total number M m levels
