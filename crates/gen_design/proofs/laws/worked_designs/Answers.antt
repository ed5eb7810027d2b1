use Rattle.std.proofs.Common.{refl}
use Rattle.std.specs.Fmt.{digits}
use Rattle.emh_base.specs.TwoLevel.{two_level}
use Rattle.gen_design.proofs.laws.worked_designs.Goals as goal

pub returns-clause-draws : goal.returns-clause-draws
returns-clause-draws c = refl

pub returns-clause-zero : goal.returns-clause-zero
returns-clause-zero c = refl

pub returns-clause-first : goal.returns-clause-first
unfolding digits
returns-clause-first c = refl

pub returns-clause-third : goal.returns-clause-third
returns-clause-third c = refl

pub returns-clause-turns : goal.returns-clause-turns
unfolding two_level digits
returns-clause-turns c = (refl, refl)

pub returns-clause-empty : goal.returns-clause-empty
returns-clause-empty c = refl
