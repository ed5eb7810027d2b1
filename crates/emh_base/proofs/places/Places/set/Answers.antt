use Rattle.std.proofs.Common.{◌∙◌, ap}
use Rattle.std.specs.FinMap as map
use Rattle.emh_base.specs.Path.{path_cmp, path_total}
use Rattle.emh_base.proofs.PlacesLemmas.{path_apart, inserted}
use Rattle.emh_base.proofs.places.Places.set.Goals as goal

pub returns-clause-ok : goal.returns-clause-ok
returns-clause-ok c =
    inserted path_cmp path_total path_apart c.self.inside.placements.entries c.insert.new.self.entries c.args.path c.args.to
    c.in_ok-insert.ensures.updates.0
    ∙ ap (λ places. map.insert places c.args.path c.args.to) c.self.view_is
