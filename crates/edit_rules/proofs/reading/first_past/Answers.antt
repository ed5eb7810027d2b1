use Rattle.std.proofs.Common.{find, sym, ap, ◌∙◌}
use Rattle.flatten_rules.proofs.Places.{option_copied-get}
use Rattle.edit_rules.specs.Facts.{is_past}
use Rattle.edit_rules.proofs.FactsLemmas.{first-past}
use Rattle.edit_rules.proofs.reading.first_past.Goals as goal

pub returns-in-Some : goal.returns-in-Some
returns-in-Some g c =
    let number = g.T.Numbered.number_of in
    let items = c.args.items.now in
    option_copied-get items c.place_past.result c.get-in-Some.result c.get-in-Some.ensures.lookup
    ∙ first-past number c.in-Some.last items c.place_past.result c.place_past.ensures.within c.place_past.ensures.parts
    ∙ ap (λ last. find (λ item. is_past last (number item)) items) (sym c.in-Some.is)
