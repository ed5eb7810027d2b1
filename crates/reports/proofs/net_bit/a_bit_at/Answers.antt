use Rattle.std.proofs.Common.{reverse, sym, ◌∙◌}
use Rattle.emh_base.specs.declared.rule.Rule.TheVariants.{NoSuchOccurrence}
use Rattle.reports.proofs.Looking.{named-found, inner-live}
use Rattle.reports.proofs.net_bit.a_bit_at.Goals as goal

pub a_net-requires-clause-live : goal.a_net-requires-clause-live
a_net-requires-clause-live c =
    let way = c.args.way.now in
    let holder = c.in_ok-holder.holder in
    let inner = sym c.inner_id.ensures ∙ named-found NoSuchOccurrence 2 c.inner_id.result holder c.in_ok-holder.ensures in
    rw (← c.requires.plain) (inner-live way.plain way.top (reverse way.path) c.module.result.now holder c.module.ensures.there inner)
