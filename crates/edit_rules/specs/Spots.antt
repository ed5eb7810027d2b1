-- The edits of placements, the rules of each in the order in which they are looked at, and which
-- placements are kept.
use Rattle.std.specs.Prelude.{Bool, true, false, not, List, [], ◌∷◌, ◌++◌, reverse, Option, Some, None, is_none}
use Rattle.std.specs.FinMap.{get, retain_keys}
use Rattle.emh_base.specs.declared.ids.ModId.{ModId}
use Rattle.emh_base.specs.declared.ids.InstId.{InstId}
use Rattle.emh_base.specs.declared.placement.Status.TheVariants.{Placed, Fixed}
use Rattle.emh_base.specs.declared.placement.Status.{Status}
use Rattle.emh_base.specs.declared.placement.Placement.{Placement}
use Rattle.emh_base.specs.declared.plain.PModule.{PModule}
use Rattle.emh_base.specs.declared.plain.Plain.{Plain}
use Rattle.emh_base.specs.declared.state.State.{State}
use Rattle.emh_base.specs.declared.rule.Rule.TheVariants.{NoSuchOccurrence, NotLeaf, IsFixed, NotPlaced}
use Rattle.emh_base.specs.declared.rule.Object.TheVariants.{Spot}
use Rattle.emh_base.specs.Places.{PlacesByPath}
use Rattle.flatten_rules.specs.Unfolding.{module_up}
use Rattle.flatten_rules.specs.Domains.{is_leaf}
use Rattle.edit_rules.specs.Check.{Check, check}

-- the module at a path of the unfolding
abbrev pub module_at : Plain → ModId → List InstId → Option PModule
module_at M top path = module_up M top (reverse path)

-- a block instance is there
abbrev pub is_leaf_path : Plain → ModId → List InstId → Bool
is_leaf_path M top path = is_leaf (module_at M top path)

-- the placements at the paths where a block instance is still there
abbrev pub kept : Plain → ModId → PlacesByPath → PlacesByPath
kept M top places = retain_keys places (is_leaf_path M top)

-- what is looked at where an edit names a block instance by its path
abbrev pub at_leaf : State → List InstId → List Check
at_leaf S path =
    check NoSuchOccurrence Spot (is_none (module_at S.plain S.top path))
    ∷ check NotLeaf Spot (not (is_leaf_path S.plain S.top path))
    ∷ []

abbrev pub may_not_move : Status → Bool
may_not_move Placed = false
may_not_move Fixed = true

abbrev pub is_fixed : Option Placement → Bool
is_fixed None = false
is_fixed (Some placement) = may_not_move placement.status

-- Place: the placement of a block instance
abbrev pub place_rules : State → List InstId → List Check
place_rules S path = at_leaf S path ++ check IsFixed Spot (is_fixed (get S.places path)) ∷ []

-- Unplace: takes the placement away, a fixed one too
abbrev pub unplace_rules : State → List InstId → List Check
unplace_rules S path = at_leaf S path ++ check NotPlaced Spot (is_none (get S.places path)) ∷ []
