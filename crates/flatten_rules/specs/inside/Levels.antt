-- How the modules of a table are counted, level by level.
use Rattle.std.specs.Prelude.{ℕ, ◌+◌, min, List, map, Option}
use Rattle.emh_base.specs.declared.ids.ModId.{ModId}
use Rattle.emh_base.specs.declared.plain.PModule.{PModule}
use Rattle.emh_base.specs.declared.plain.Plain.{Plain}
use Rattle.flatten_rules.specs.Bounds.{bit_limit}
use Rattle.flatten_rules.specs.Lookup.{module_of}
use Rattle.flatten_rules.specs.Counting.{total, height}

-- what an occurrence of a module counts
abbrev pub Weight : Type 0
Weight = ModId → Option PModule → ℕ

abbrev pub weight_in : Weight → Plain → ModId → ℕ
weight_in weight M m = weight m (module_of M m)

-- a number that stops at the greatest limit plus one, so that it still tells whether any limit is
-- passed
abbrev pub stopped : ℕ → ℕ
stopped n = min n (bit_limit + 1)

-- what an occurrence of a module counts with all below it, down to that many levels
abbrev pub counted : Weight → Plain → ℕ → ModId → ℕ
counted weight M levels m = stopped (total (weight_in weight M) M m levels)

-- these numbers, for each module of the table
abbrev pub level_of : Weight → Plain → ℕ → List ℕ
level_of weight M levels = map (λ (m : PModule). counted weight M levels m.id) M.modules

-- the height of each module of the table, down to that many levels
abbrev pub heights : Plain → ℕ → List ℕ
heights M levels = map (λ (m : PModule). height M m.id levels) M.modules
