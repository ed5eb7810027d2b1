-- Occurrences and block instances by their paths: finite maps beside the lists. This project's own.
use Rattle.std.specs.Prelude.{◌≡◌, List}
use Rattle.std.specs.List.{zip}
use Rattle.std.specs.FinMap.{FinMap, entries, from_entries}
use Rattle.std.specs.declared.cmp.Ordering.TheVariants.{Less}
use Rattle.emh_base.specs.Path.{path_cmp}
use Rattle.emh_base.specs.declared.ids.ModId.{ModId}
use Rattle.emh_base.specs.declared.plain.Conn.{Conn}
use Rattle.emh_base.specs.declared.plain.PPort.{PPort}
use Rattle.emh_base.specs.declared.plain.PInst.{PInst}
use Rattle.emh_base.specs.declared.plain.Plain.{Plain}
use Rattle.flatten_rules.specs.Lookup.{module_of, InstsRise}
use Rattle.flatten_rules.specs.Unfolding.{Occurrence, occurrences}
use Rattle.flatten_rules.specs.Domains.{block_instances, ports_of}

-- modules by the paths of their occurrences
abbrev pub ModulesByPath : Type 0
ModulesByPath = FinMap path_cmp ModId

abbrev pub occurrences_by_path : Plain → ModId → ModulesByPath
occurrences_by_path M top = from_entries (occurrences M top)

-- masters by the paths of their block instances
abbrev pub block_by_path : Plain → ModId → ModulesByPath
block_by_path M top = from_entries (block_instances M top)

-- the path of an occurrence stands before that of another
abbrev pub StandsBefore : Occurrence → Occurrence → Type 0
StandsBefore a b = path_cmp a.0 b.0 ≡ Less

-- The law of paths: the entries of the maps are the lists, in preorder, where instances have rising
-- ids.
pub record EntriesAreLists (M : Plain) (top : ModId) : Type 0 where
  pub occurrences : entries (occurrences_by_path M top) ≡ occurrences M top
  pub block : entries (block_by_path M top) ≡ block_instances M top

abbrev pub EachPathInOrder : Type 0
EachPathInOrder = (M : Plain) (top : ModId) → InstsRise M → EntriesAreLists M top

-- the connections of an instance by the ports of its master, in port order
abbrev pub ports_with_conns : Plain → PInst → List (PPort × Conn)
ports_with_conns M inst = zip (ports_of (module_of M inst.master)) inst.conns
