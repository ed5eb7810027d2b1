use Rattle.std.proofs.Common.{◌==◌, ◌∙◌, ap, position}
use Rattle.flatten_rules.proofs.Places.{found-at_place, found-nowhere}
use Rattle.flatten_rules.proofs.lookup.place_of_module.Goals as goal

pub returns-clause-found : goal.returns-clause-found
returns-clause-found c =
    found-at_place (λ m. m.id.0 == c.args.id.0) c.args.plain.now.modules c.place_of.result
    (c.place_of.ensures ∙ ap (position (λ m. m.id.0 == c.args.id.0)) c.as_slice.ensures)

pub returns-clause-none : goal.returns-clause-none
returns-clause-none c =
    found-nowhere (λ m. m.id.0 == c.args.id.0) c.args.plain.now.modules c.place_of.result
    (c.place_of.ensures ∙ ap (position (λ m. m.id.0 == c.args.id.0)) c.as_slice.ensures)
