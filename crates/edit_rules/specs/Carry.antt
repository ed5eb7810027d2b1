-- Where edits carry occurrences, and their placements with them. This project's own.
use Rattle.std.specs.Prelude.{List, Option, Some, option_map, option_to_list}
use Rattle.std.specs.List.{flat_map}
use Rattle.std.specs.FinMap.{entries, from_entries}
use Rattle.emh_base.specs.declared.ids.InstId.{InstId}
use Rattle.emh_base.specs.declared.placement.Placement.{Placement}
use Rattle.emh_base.specs.declared.state.State.{State}
use Rattle.emh_base.specs.declared.edit.Edit.{Edit}
use Rattle.emh_base.specs.Places.{PlacesByPath}

-- the path to which an edit carries the occurrence at a path, none where it goes nowhere: each
-- stays where it is
abbrev pub carry : State → Edit → List InstId → Option (List InstId)
carry S e path = Some path

-- a placement at the path to which its own is carried, none where that goes nowhere
abbrev pub carried_entry
    : (List InstId → Option (List InstId)) → List InstId × Placement
    → List (List InstId × Placement)
carried_entry to entry = option_to_list (option_map (λ path. (path, entry.1)) (to entry.0))

-- the placements, each at the path to which its own is carried
abbrev pub carried : (List InstId → Option (List InstId)) → PlacesByPath → PlacesByPath
carried to places = from_entries (flat_map (carried_entry to) (entries places))
