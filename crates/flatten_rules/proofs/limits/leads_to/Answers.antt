use Rattle.std.proofs.Common.{nat_lt, sym, ap, ◌∙◌}
use Rattle.flatten_rules.proofs.Summing.{leads-counted}
use Rattle.flatten_rules.proofs.limits.leads_to.Goals as goal

pub returns : goal.returns
returns c = ap (nat_lt 0) c.in_ok-times.ensures ∙ sym (leads-counted c.args.plain.now c.args.from c.args.to)
