use Rattle.std.proofs.Common.{◌∙◌}
use Rattle.flatten_rules.proofs.Summing.{bits-counted}
use Rattle.flatten_rules.proofs.limits.net_bit_count.Goals as goal

pub returns : goal.returns
returns c = c.below.ensures ∙ bits-counted c.args.plain.now c.args.top c.requires.within.bits
