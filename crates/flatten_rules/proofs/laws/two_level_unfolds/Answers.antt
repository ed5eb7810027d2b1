use Rattle.std.proofs.Common.{refl}
use Rattle.emh_base.specs.TwoLevel.{two_level}
use Rattle.flatten_rules.specs.Unfolding.{unfolded}
use Rattle.flatten_rules.proofs.laws.two_level_unfolds.Goals as goal

pub returns : goal.returns
unfolding two_level unfolded
returns c = refl
