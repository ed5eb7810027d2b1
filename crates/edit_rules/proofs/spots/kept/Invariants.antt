-- With what is kept of the other placements put in, what is made so far is what is kept.
use Rattle.std.proofs.Common.{◌≡◌, filter, drop}
use Rattle.std.specs.FinMap.{retain_keys}
use Rattle.emh_base.proofs.PlacesLemmas.{with_entries}
use Rattle.edit_rules.specs.Spots.{is_leaf_path}
use Rattle.edit_rules.proofs.spots.kept.Given as goal

abbrev pub invariant-loop-path : goal.invariant-loop-path
invariant-loop-path l =
    with_entries l.made (filter (λ e. is_leaf_path l.plain l.top e.0) (drop l.path-index l.path-items))
    ≡ retain_keys l.places (is_leaf_path l.plain l.top)
