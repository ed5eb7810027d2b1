use Rattle.std.proofs.Common.{refl}
use Rattle.emh_base.specs.TwoLevel.{two_level}
use Rattle.edit_rules.proofs.laws.worked_edits.Goals as goal

pub returns-clause-locks : goal.returns-clause-locks
unfolding two_level
returns-clause-locks c = (refl, refl)

pub returns-clause-sources : goal.returns-clause-sources
unfolding two_level
returns-clause-sources c = (refl, refl, refl)

pub returns-clause-ports : goal.returns-clause-ports
unfolding two_level
returns-clause-ports c = refl
