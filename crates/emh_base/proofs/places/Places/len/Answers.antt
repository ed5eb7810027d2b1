use Rattle.std.proofs.Common.{◌∙◌, ap}
use Rattle.std.specs.FinMap as map
use Rattle.emh_base.specs.Path.{path_cmp, path_total}
use Rattle.emh_base.proofs.PlacesLemmas.{path_apart, len_seen}
use Rattle.emh_base.proofs.places.Places.len.Goals as goal

pub returns : goal.returns
returns c =
    c.len.ensures.len ∙ len_seen path_cmp path_total path_apart c.self.inside.placements.entries c.len.ensures.ordered
    ∙ ap map.len c.self.view_is
