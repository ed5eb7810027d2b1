use Rattle.std.proofs.Common.{◌∙◌, ap}
use Rattle.std.specs.FinMap as map
use Rattle.emh_base.specs.Path.{path_cmp, path_total}
use Rattle.emh_base.proofs.PlacesLemmas.{path_apart, get_seen}
use Rattle.emh_base.proofs.places.Places.get.Goals as goal

pub returns : goal.returns
returns c =
    c.copied.ensures ∙ c.get.ensures.value
    ∙ get_seen path_cmp path_total path_apart c.self.inside.placements.entries c.args.path.now
    ∙ ap (λ places. map.get places c.args.path.now) c.self.view_is
