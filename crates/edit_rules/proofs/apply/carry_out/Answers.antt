use Rattle.std.proofs.Common.{sym, subst}
use Rattle.edit_rules.specs.inside.Order.{InOrder}
use Rattle.edit_rules.proofs.OrderLemmas.{order-after}
use Rattle.edit_rules.proofs.SurvivalLemmas.{after_made}
use Rattle.edit_rules.proofs.apply.carry_out.Goals as goal

pub places_after-requires : goal.places_after-requires
places_after-requires c = subst InOrder (sym c.in_ok-table.ensures) (order-after c.args.state.now.plain c.args.edit.now c.requires.sound)

pub returns-clause-ok : goal.returns-clause-ok
returns-clause-ok c =
    after_made c.args.state.now c.args.edit.now c.in_ok-table.table c.in_ok-places.places c.settings_after-state.result c.in_ok-table.ensures c.in_ok-places.ensures c.settings_after-state.ensures
