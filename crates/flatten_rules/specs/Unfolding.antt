use Rattle.std.specs.Prelude.{ℕ, zero, suc, ◌+◌, List, [], ◌∷◌, ◌++◌, Option, option_and_then}
use Rattle.std.specs.List.{flat_map}
use Rattle.emh_base.specs.declared.ids.ModId.{ModId}
use Rattle.emh_base.specs.declared.ids.InstId.{InstId}
use Rattle.emh_base.specs.declared.plain.PInst.{PInst}
use Rattle.emh_base.specs.declared.plain.PModule.{PModule}
use Rattle.emh_base.specs.declared.plain.Plain.{Plain}
use Rattle.flatten_rules.specs.Bounds.{depth_limit}
use Rattle.flatten_rules.specs.Lookup.{module_of, inst_of, insts_of}

-- an occurrence: the instances that lead to it from the top, and the module that it is of
abbrev pub Occurrence : Type 0
Occurrence = List InstId × ModId

-- An occurrence of module m at a path, and all below it in preorder, down to that many levels:
-- itself, then those below each of its instances in order.
unfoldable pub unfolded : Plain → List InstId → ModId → ℕ → List Occurrence
unfolded M path m zero = []
unfolded M path m (suc levels) =
    (path, m)
    ∷ flat_map (λ inst. unfolded M (path ++ inst.id ∷ []) inst.master levels)
    (insts_of (module_of M m))

-- The unfolding of the table from a top: its occurrence domain. A walk of 256 instances has 257
-- modules.
abbrev pub occurrences : Plain → ModId → List Occurrence
occurrences M top = unfolded M [] top (depth_limit + 1)

-- An upward path is a path from its last instance up to the top.

-- the module at the end of an upward path
unfoldable pub module_up : Plain → ModId → List InstId → Option PModule
module_up M top [] = module_of M top
module_up M top (i ∷ up) =
    option_and_then (λ inst. module_of M inst.master)
    (option_and_then (λ m. inst_of m i) (module_up M top up))

-- the last instance of an upward path
abbrev pub inst_up : Plain → ModId → InstId → List InstId → Option PInst
inst_up M top i up = option_and_then (λ m. inst_of m i) (module_up M top up)
