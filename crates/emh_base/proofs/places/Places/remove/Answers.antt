use Rattle.std.proofs.Common.{◌∙◌, ap}
use Rattle.std.specs.FinMap as map
use Rattle.emh_base.specs.Path.{path_cmp, path_total}
use Rattle.emh_base.proofs.PlacesLemmas.{path_apart, removed}
use Rattle.emh_base.proofs.places.Places.remove.Goals as goal

pub returns : goal.returns
returns c =
    removed path_cmp path_total path_apart c.self.inside.placements.entries c.remove.new.self.entries c.args.path.now
    c.remove.ensures.updates.0
    ∙ ap (λ places. map.remove places c.args.path.now) c.self.view_is
