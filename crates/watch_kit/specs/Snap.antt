-- Snap: placements come to the grid. This project's own.
use Rattle.std.specs.Prelude.{ℕ, suc, ◌*◌, ◌/◌, ℤ, pos, negsuc, neg_ℤ, Bool, ◌&&◌, List, [], ◌∷◌, Option, Some, None, if◌then◌else◌}
use Rattle.std.specs.Ordering.{int_eq}
use Rattle.std.specs.FinMap.{get}
use Rattle.emh_base.specs.declared.ids.InstId.{InstId}
use Rattle.emh_base.specs.declared.placement.Placement.{Placement}
use Rattle.emh_base.specs.declared.state.State.{State}
use Rattle.emh_base.specs.declared.edit.Edit.{Edit}
use Rattle.emh_base.specs.declared.edit.Edit.TheVariants.{Place}
use Rattle.session_rules.specs.Take.{Wants}

-- Rounded toward zero to a multiple of the grid: how far a number is from zero is rounded down.
abbrev pub rounded : ℕ → ℤ → ℤ
rounded grid (pos n) = pos (n / grid * grid)
rounded grid (negsuc n) = neg_ℤ (pos (suc n / grid * grid))

abbrev pub is_multiple : ℕ → ℤ → Bool
is_multiple grid z = int_eq (rounded grid z) z

-- the present placement with both numbers rounded, unless both are multiples
abbrev pub snap_to : ℕ → List InstId → Option Placement → List Edit
snap_to grid path None = []
snap_to grid path (Some at) =
    if is_multiple grid at.x && is_multiple grid at.y then []
    else Place path (record at { x = rounded grid at.x; y = rounded grid at.y }) ∷ []

abbrev pub snap_by : State → Option ℕ → Edit → List Edit
snap_by S (Some grid) (Place path placement) = snap_to grid path (get S.places path)
snap_by S _ _ = []

abbrev pub snap : Wants
snap S c = snap_by S S.settings.grid c.edit
