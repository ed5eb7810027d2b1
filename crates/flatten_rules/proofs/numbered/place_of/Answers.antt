use Rattle.std.proofs.Common.{sym, ap, ◌∙◌}
use Rattle.flatten_rules.proofs.Places.{position-own}
use Rattle.flatten_rules.proofs.numbered.place_of.Goals as goal

pub returns-then-number : goal.returns-then-number
returns-then-number g c =
    sym (position-own g.T.Numbered.number_of c.args.number c.args.items.now c.args.number c.index-items-place.result c.requires c.if-place-items.true
    (ap g.T.Numbered.number_of (sym c.index-items-place.is) ∙ sym c.number.ensures ∙ c.if-number.true))
