-- Whether a table may be opened as a design with a module of a name at its top. This project's own.
use Rattle.std.specs.Prelude.{◌≡◌, ℕ, Bool, List, [], ◌∷◌, Option, Some, None, option_map, Result, Ok, Err}
use Rattle.emh_base.specs.declared.ids.ModId.{ModId}
use Rattle.emh_base.specs.declared.plain.PModule.{PModule}
use Rattle.emh_base.specs.declared.plain.Plain.{Plain}
use Rattle.flatten_rules.specs.Design.{module_named}
use Rattle.edit_rules.specs.declared.opening.OpenFault.{OpenFault}
use Rattle.edit_rules.specs.declared.opening.OpenFault.TheVariants.{NoSuchModule, IsCell, TooDeep, TooManyOccurrences, TooManyBits, NoMemory}
use Rattle.flatten_rules.specs.Check.{first_broken}
use Rattle.flatten_rules.specs.Limits.{is_too_deep, has_too_many_occurrences, has_too_many_bits}

-- what is looked at in a module that is to be the top, in this order
abbrev pub top_rules : Plain → PModule → List (Bool × OpenFault)
top_rules M m =
    (m.leaf, IsCell)
    ∷ (is_too_deep M, TooDeep)
    ∷ (has_too_many_occurrences M m.id, TooManyOccurrences)
    ∷ (has_too_many_bits M m.id, TooManyBits)
    ∷ []

-- what refuses the module of that name as the top, none where nothing does
abbrev pub open_fault : Plain → Option PModule → Option OpenFault
open_fault M None = Some NoSuchModule
open_fault M (Some m) = first_broken (top_rules M m)

-- how a call answers what is looked at: want of memory is free
abbrev pub FaultLooks : {X : Type 0} → Option OpenFault → Result X OpenFault → Type 0
FaultLooks fault (Ok done) = fault ≡ None
FaultLooks fault (Err NoMemory) = Unit {0}
FaultLooks fault (Err told) = fault ≡ Some told

-- the id of the module of that name
abbrev pub top_named : Plain → List ℕ → Option ModId
top_named M name = option_map (λ m. m.id) (module_named M name)

-- the number by which a fault is told in print; want of memory is never told
abbrev pub open_code : OpenFault → ℕ
open_code NoSuchModule = 1
open_code IsCell = 10
open_code TooDeep = 29
open_code TooManyOccurrences = 17
open_code TooManyBits = 30
open_code NoMemory = 0
