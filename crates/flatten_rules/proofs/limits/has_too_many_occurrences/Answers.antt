use Rattle.std.proofs.Common.{nat_lt, sym, ap, ◌∙◌}
use Rattle.flatten_rules.proofs.Summing.{many-occurrences}
use Rattle.flatten_rules.proofs.limits.has_too_many_occurrences.Goals as goal

pub returns : goal.returns
returns c = ap (nat_lt 1000000) c.in_ok-occurrences.ensures ∙ sym (many-occurrences c.args.plain.now c.args.top)
