-- The laws of the table by names, which public calls carry: the flat netlist and the cycles of a table are told by its
-- names alone.
use Rattle.std.specs.Prelude.{◌≡◌, ◌<◌, map, Some, All, AllPairs, bytes_eq}
use Rattle.std.specs.List.{IsDistinct}
use Rattle.emh_base.specs.declared.ids.ModId.{ModId}
use Rattle.emh_base.specs.declared.plain.PModule.{PModule}
use Rattle.emh_base.specs.declared.plain.Plain.{Plain}
use Rattle.flatten_rules.specs.Lookup.{module_of}
use Rattle.flatten_rules.specs.Cycle.{OnCycle}
use Rattle.flatten_rules.specs.Sound.{IsSound, IsSoundModule}
use Rattle.flatten_rules.specs.FlatLines.{flat_lines}
use Rattle.named_tables.specs.NamedTable.{named_table}

-- sound tables that are the same by names have one flat netlist, at tops of one name
abbrev pub EachFlatNetlistByNames : Type 0
EachFlatNetlistByNames = (M N : Plain) (top other : ModId) (m n : PModule) → IsSound M → IsSound N
    → named_table M ≡ named_table N → module_of M top ≡ Some m → module_of N other ≡ Some n
    → m.name ≡ n.name
    → flat_lines M top ≡ flat_lines N other

-- a table that is sound but for cycles, which it may have
pub record IsSoundButCycles (M : Plain) : Type 0 where
  pub names : IsDistinct bytes_eq (map (λ (m : PModule). m.name) M.modules)
  pub rise : AllPairs (λ (a b : PModule). a.id.0 < b.id.0) M.modules
  pub modules : All (IsSoundModule M) M.modules

-- of two such tables that are the same by names, where a module of the one is on a cycle, the other's of that name is too
abbrev pub EachCycleByNames : Type 0
EachCycleByNames = (M N : Plain) (m : PModule) → IsSoundButCycles M → IsSoundButCycles N
    → named_table M ≡ named_table N → OnCycle M m → (n : PModule) × (n.name ≡ m.name) × OnCycle N n
