use Rattle.std.proofs.Common.{sym, ap, ◌∙◌, arith}
use Rattle.std.proofs.lemmas.List.{get_or_default}
use Rattle.flatten_rules.proofs.Places.{position-found, position-absent}
use Rattle.flatten_rules.proofs.numbered.searched.Goals as goal
use Rattle.flatten_rules.proofs.numbered.searched.Goals.{else-place-items-via-then-place-items+else-number, else-place-items-via-else-place-items}

pub returns-then-number : goal.returns-then-number
returns-then-number g c =
    sym (position-found g.T.Numbered.number_of c.args.number c.args.items.now c.first_from-place.result c.index-items-place.result c.first_from-place.ensures.parts c.if-place-items.true
    (ap g.T.Numbered.number_of (sym c.index-items-place.is) ∙ sym c.number.ensures ∙ c.if-number.true))

pub returns-else-place-items : goal.returns-else-place-items
returns-else-place-items g c =
    sym (position-absent g.T.Numbered.number_of c.args.number c.args.items.now c.first_from-place.result c.first_from-place.ensures.parts c.requires
    (elim c.else-place-items.branch [ else-place-items-via-then-place-items+else-number w ↦ λ within d here. w.if-number.false (w.number.ensures ∙ ap g.T.Numbered.number_of (w.index-items-place.is ∙ get_or_default c.args.items.now c.first_from-place.result w.index-items-place.result d within) ∙ here) | else-place-items-via-else-place-items w ↦ λ within. absurd (omega arith) ]))
