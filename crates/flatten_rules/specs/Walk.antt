-- What the unfolding holds, said by walks: which path leads to which module. This project's own.
use Rattle.std.specs.Prelude.{◌≡◌, ◌≢◌, ◌↔◌, ◌≤◌, List, [], ◌∷◌, reverse, length, Option, Some, option_map, AllPairs, Contains}
use Rattle.emh_base.specs.declared.ids.ModId.{ModId}
use Rattle.emh_base.specs.declared.ids.InstId.{InstId}
use Rattle.emh_base.specs.declared.plain.PInst.{PInst}
use Rattle.emh_base.specs.declared.plain.PModule.{PModule}
use Rattle.emh_base.specs.declared.plain.Plain.{Plain}
use Rattle.flatten_rules.specs.Bounds.{depth_limit}
use Rattle.flatten_rules.specs.Lookup.{module_of, InstsRise}
use Rattle.flatten_rules.specs.Unfolding.{Occurrence, occurrences, module_up, inst_up}
use Rattle.flatten_rules.specs.Limits.{WalksAreShort}

-- the id of the module at the end of an upward path, whether the table has that module or not
abbrev pub id_up : Plain → ModId → List InstId → Option ModId
id_up M top [] = Some top
id_up M top (i ∷ up) = option_map (λ (inst : PInst). inst.master) (inst_up M top i up)

-- The law of walks, in a table from a top: the occurrences are the paths that lead to a module,
-- each with that module.
pub record Unfolds (M : Plain) (top : ModId) : Type 0 where
  -- a module that the table has is at a path exactly where the path leads to it
  pub modules : (path : List InstId) (m : PModule) → module_of M m.id ≡ Some m
      → Contains (occurrences M top) (path, m.id) ↔ (module_up M top (reverse path) ≡ Some m)
  -- any id, also one that the table doesn't have, is at a path of at most 256 instances exactly
  -- where it is the id there
  pub ids : (path : List InstId) (id : ModId)
      → Contains (occurrences M top) (path, id)
      ↔ ((length path ≤ depth_limit) × (id_up M top (reverse path) ≡ Some id))
  -- no path is there twice
  pub once : AllPairs (λ (a b : Occurrence). a.0 ≢ b.0) (occurrences M top)

-- the law holds in each table whose instances have rising ids and whose walks are not too long, so
-- in each sound one within the limits
abbrev pub EachWalkOnce : Type 0
EachWalkOnce = (M : Plain) (top : ModId) → InstsRise M → WalksAreShort M → Unfolds M top
