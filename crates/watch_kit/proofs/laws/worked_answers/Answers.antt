use Rattle.std.proofs.Common.{refl}
use Rattle.std.specs.Fmt.{digits}
use Rattle.flatten_rules.specs.Unfolding.{unfolded}
use Rattle.flatten_rules.specs.Counting.{height}
use Rattle.watch_kit.specs.Examples.{three_on_a_net}
use Rattle.watch_kit.proofs.laws.worked_answers.Goals as goal

pub returns-clause-splits : goal.returns-clause-splits
unfolding three_on_a_net digits unfolded
returns-clause-splits c = refl

pub returns-clause-third : goal.returns-clause-third
unfolding three_on_a_net digits unfolded height
returns-clause-third c = refl

pub returns-clause-leaves : goal.returns-clause-leaves
unfolding three_on_a_net digits unfolded height
returns-clause-leaves c = ((refl, (refl, (refl, (refl, (refl, (refl, tt)))))), refl, refl)

pub returns-clause-sweeps : goal.returns-clause-sweeps
unfolding three_on_a_net
returns-clause-sweeps c = refl

pub returns-clause-rounds : goal.returns-clause-rounds
returns-clause-rounds c = refl

pub returns-clause-endings : goal.returns-clause-endings
returns-clause-endings c = (refl, refl, refl)
