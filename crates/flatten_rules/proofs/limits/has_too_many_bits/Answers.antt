use Rattle.std.proofs.Common.{nat_lt, sym, ap, ◌∙◌}
use Rattle.flatten_rules.proofs.Summing.{many-bits}
use Rattle.flatten_rules.proofs.limits.has_too_many_bits.Goals as goal

pub returns : goal.returns
returns c = ap (nat_lt 4000000) c.in_ok-bits.ensures ∙ sym (many-bits c.args.plain.now c.args.top)
