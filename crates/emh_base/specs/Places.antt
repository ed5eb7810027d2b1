-- Placements by path: a finite map, and how its keys and values are told apart.
use Rattle.std.specs.Prelude.{◌≡◌, refl, ℕ, ℤ, Bool, true, false, List}
use Rattle.std.specs.FinMap.{FinMap, code}
use Rattle.std.specs.Coded.{Coded, code_by, coded×, coded_ℕ, coded_ℤ, coded_bool, coded_list}
use Rattle.emh_base.specs.declared.ids.InstId.{InstId}
use Rattle.emh_base.specs.declared.placement.Orient.{Orient}
use Rattle.emh_base.specs.declared.placement.Orient.TheVariants.{R0, R90, R180, R270, MX, MY, MXR90, MYR90}
use Rattle.emh_base.specs.declared.placement.Status.{Status}
use Rattle.emh_base.specs.declared.placement.Status.TheVariants.{Placed, Fixed}
use Rattle.emh_base.specs.declared.placement.Placement.{Placement}
use Rattle.emh_base.specs.Path.{path_cmp}

-- a finite map from paths to placements
abbrev pub PlacesByPath : Type 0
PlacesByPath = FinMap path_cmp Placement

abbrev pub path_code : Coded (List InstId)
path_code = coded_list (code_by ℕ coded_ℕ (λ (step : InstId). step.0) (λ n. record { 0 = n }) (λ _. refl))

abbrev bits_of_orient : Orient → Bool × (Bool × Bool)
bits_of_orient R0 = (false, (false, false))
bits_of_orient R90 = (false, (false, true))
bits_of_orient R180 = (false, (true, false))
bits_of_orient R270 = (false, (true, true))
bits_of_orient MX = (true, (false, false))
bits_of_orient MY = (true, (false, true))
bits_of_orient MXR90 = (true, (true, false))
bits_of_orient MYR90 = (true, (true, true))

abbrev orient_of_bits : Bool × (Bool × Bool) → Orient
orient_of_bits (false, (false, false)) = R0
orient_of_bits (false, (false, true)) = R90
orient_of_bits (false, (true, false)) = R180
orient_of_bits (false, (true, true)) = R270
orient_of_bits (true, (false, false)) = MX
orient_of_bits (true, (false, true)) = MY
orient_of_bits (true, (true, false)) = MXR90
orient_of_bits (true, (true, true)) = MYR90

pub orient_again : (orient : Orient) → orient_of_bits (bits_of_orient orient) ≡ orient
orient_again R0 = refl
orient_again R90 = refl
orient_again R180 = refl
orient_again R270 = refl
orient_again MX = refl
orient_again MY = refl
orient_again MXR90 = refl
orient_again MYR90 = refl

abbrev orient_code : Coded Orient
orient_code =
    code_by (Bool × (Bool × Bool)) (coded× coded_bool (coded× coded_bool coded_bool)) bits_of_orient orient_of_bits
    orient_again

abbrev is_fixed : Status → Bool
is_fixed Placed = false
is_fixed Fixed = true

abbrev status_of : Bool → Status
status_of false = Placed
status_of true = Fixed

pub status_again : (status : Status) → status_of (is_fixed status) ≡ status
status_again Placed = refl
status_again Fixed = refl

abbrev status_code : Coded Status
status_code = code_by Bool coded_bool is_fixed status_of status_again

abbrev pub placement_code : Coded Placement
placement_code =
    code_by (ℤ × (ℤ × (Orient × Status))) (coded× coded_ℤ (coded× coded_ℤ (coded× orient_code status_code)))
    (λ (place : Placement). (place.x, (place.y, (place.orient, place.status))))
    (λ p. record { x = p.0; y = p.1.0; orient = p.1.1.0; status = p.1.1.1 }) (λ _. refl)

-- so placements by path are told apart
abbrev pub places_code : Coded PlacesByPath
places_code = code path_code placement_code
