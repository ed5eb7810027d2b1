use Rattle.std.proofs.Common.{◌==◌, ◌∙◌}
use Rattle.flatten_rules.proofs.Places.{find-from_place, find-from_none, option_copied-get}
use Rattle.flatten_rules.proofs.lookup.find.Goals as goal

pub returns-in-Some : goal.returns-in-Some
returns-in-Some g c =
    option_copied-get c.args.items.now c.in-Some.place c.get.result c.get.ensures.lookup
    ∙ find-from_place (λ x. g.T.Numbered.number_of x == c.args.number) c.args.items.now c.in-Some.place c.in-Some.ensures

pub returns-in-None : goal.returns-in-None
returns-in-None g c = find-from_none (λ x. g.T.Numbered.number_of x == c.args.number) c.args.items.now c.in-None.ensures
