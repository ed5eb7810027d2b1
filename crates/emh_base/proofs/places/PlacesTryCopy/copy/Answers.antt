use Rattle.std.proofs.Common.{◌∙◌, ap₂}
use Rattle.emh_base.specs.Path.{path_cmp, path_total}
use Rattle.emh_base.proofs.PlacesLemmas.{path_apart, put_in_all, with_entries}
use Rattle.emh_base.proofs.places.PlacesTryCopy.copy.Goals as goal

pub loop-path-init : goal.loop-path-init
loop-path-init c =
    let shown = c.into_iter-path-iterator.ensures.into_iter_gives in
    ap₂ (λ made left. with_entries made left) c.new-made.ensures shown.0
    ∙ put_in_all path_cmp path_total path_apart c.self.inside.placements.entries shown.5 ∙ c.self.view_is
