use Rattle.std.proofs.Common.{refl, ap, [], ◌∷◌}
use Rattle.std.specs.FinMap.{get-empty}
use Rattle.emh_base.specs.Path.{path_cmp}
use Rattle.emh_base.specs.declared.placement.Placement.{Placement}
use Rattle.emh_base.specs.TwoLevel.{two_level}
use Rattle.flatten_rules.specs.Unfolding.{unfolded, module_up}
use Rattle.edit_rules.specs.declared.facts.Spot.TheVariants.{Leaf}
use Rattle.edit_rules.specs.Readers.{users}
use Rattle.edit_rules.specs.Examples.{inst}
use Rattle.edit_rules.proofs.laws.worked_readers.Goals as goal

pub returns-clause-modules : goal.returns-clause-modules
unfolding two_level
returns-clause-modules c = (refl, refl, refl, refl, refl, refl, refl, refl, refl, refl)

pub returns-clause-uses : goal.returns-clause-uses
unfolding two_level
returns-clause-uses c = (refl, refl, refl, refl, refl, refl, refl)

pub returns-clause-names : goal.returns-clause-names
unfolding two_level
returns-clause-names c = (refl, refl, refl, refl, refl, refl, refl, refl)

pub returns-clause-ports : goal.returns-clause-ports
unfolding two_level
returns-clause-ports c = (refl, refl, refl, refl, refl, refl, refl, refl)

pub returns-clause-instances : goal.returns-clause-instances
unfolding two_level
returns-clause-instances c = (refl, refl, refl, refl, refl, refl, refl, refl, refl, refl)

pub returns-clause-unfolding : goal.returns-clause-unfolding
unfolding two_level unfolded module_up users
returns-clause-unfolding c =
    (refl, refl, refl, ap Leaf (get-empty {X = Placement} path_cmp (inst 0 ∷ inst 1 ∷ [])), refl, refl)
