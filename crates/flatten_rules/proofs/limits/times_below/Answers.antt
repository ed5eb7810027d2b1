use Rattle.std.proofs.Common.{◌∙◌}
use Rattle.flatten_rules.proofs.Summing.{times-counted}
use Rattle.flatten_rules.proofs.limits.times_below.Goals as goal

pub returns : goal.returns
returns c = c.below.ensures ∙ times-counted c.args.plain.now c.args.top c.args.id c.requires.within.size
