use Rattle.std.proofs.Common.{◌∙◌, ap, ap₂, sym, ◌++◌}
use Rattle.std.specs.FinMap as map
use Rattle.emh_base.specs.Path.{path_cmp, path_total}
use Rattle.emh_base.proofs.PlacesLemmas.{path_apart, entries_seen}
use Rattle.emh_base.proofs.places.Places.to_list.Goals as goal

pub loop-path-init : goal.loop-path-init
loop-path-init c =
    let entries = c.self.inside.placements.entries in
    let shown = c.into_iter-path-iterator.ensures.into_iter_gives in
    ap₂ (λ list left. list ++ left) c.new-list.ensures shown.0
    ∙ sym (entries_seen path_cmp path_total path_apart entries shown.5) ∙ ap map.entries c.self.view_is
