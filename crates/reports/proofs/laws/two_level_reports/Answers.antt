use Rattle.std.proofs.Common.{refl}
use Rattle.emh_base.specs.TwoLevel.{two_level}
use Rattle.flatten_rules.specs.Unfolding.{unfolded, module_up}
use Rattle.flatten_rules.specs.Root.{root_up}
use Rattle.flatten_rules.specs.Texts.{names_up}
use Rattle.reports.proofs.WorkedBlock.{unplaced-block}
use Rattle.reports.proofs.laws.two_level_reports.Goals as goal

pub returns : goal.returns
unfolding two_level unfolded module_up root_up names_up
returns c = record { pins = refl; counts = λ P. refl; occurrences = refl; modules = refl; net = refl; block = unplaced-block }
