use Rattle.std.proofs.Common.{◌∙◌}
use Rattle.flatten_rules.proofs.Summing.{occurrences-counted}
use Rattle.flatten_rules.proofs.limits.occurrence_count.Goals as goal

pub returns : goal.returns
returns c = c.below.ensures ∙ occurrences-counted c.args.plain.now c.args.top c.requires.within.size
