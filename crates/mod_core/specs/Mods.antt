-- What contracts see of the kept module table.
use Rattle.std.specs.Prelude.{ℕ, ◌==◌, Bool, List, [], slice_index_or}
use Rattle.std.specs.List.{list_any}
use Rattle.emh_base.specs.declared.ids.ModId.{ModId}
use Rattle.emh_base.specs.declared.plain.PInst.{PInst}
use Rattle.emh_base.specs.declared.plain.PModule.{PModule}
use Rattle.emh_base.specs.declared.plain.Plain.{Plain}
use Rattle.timeline.specs.Timeline.{Timeline}

-- the names of the pool by their numbers, and the table with its past and future
pub record KeptTable : Type 0 where
  pub names : List (List ℕ)
  pub table : Timeline Plain

abbrev pub name_at : List (List ℕ) → ℕ → List ℕ
name_at names number = slice_index_or names number []

-- an instance, wherever it stands, has the module as its master

abbrev pub has_master : ModId → PInst → Bool
has_master id inst = inst.master.0 == id.0

abbrev pub is_used : Plain → ModId → Bool
is_used M id = list_any (λ (holder : PModule). list_any (has_master id) holder.insts) M.modules
