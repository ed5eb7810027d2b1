use Rattle.std.proofs.Common.{ap₂, ◌∙◌, filter}
use Rattle.emh_base.specs.Path.{path_cmp, path_total}
use Rattle.emh_base.proofs.PlacesLemmas.{path_apart, put_in_kept, with_entries}
use Rattle.edit_rules.specs.Spots.{is_leaf_path}
use Rattle.edit_rules.proofs.spots.kept.Goals as goal

pub loop-path-init : goal.loop-path-init
loop-path-init c =
    ap₂ (λ made list. with_entries made (filter (λ e. is_leaf_path c.args.plain.now c.args.top e.0) list)) c.new-made.ensures (c.as_slice-path-items.ensures ∙ c.in_ok-list.ensures)
    ∙ put_in_kept path_cmp path_total path_apart c.args.places.now (is_leaf_path c.args.plain.now c.args.top)
