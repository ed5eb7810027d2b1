-- The order of paths.
use Rattle.std.specs.Prelude.{List}
use Rattle.std.specs.declared.cmp.Ordering.{Ordering}
use Rattle.std.specs.Ordering.{nat_cmp}
use Rattle.std.specs.Cmp.{IsTotalOrder, on_total, nat_cmp_total}
use Rattle.std.specs.Cmp.Lexicographic.{slice_cmp, lists_total}
use Rattle.emh_base.specs.declared.ids.InstId.{InstId}

-- instances of a module in the order of their ids
abbrev pub step_cmp : InstId → InstId → Ordering
step_cmp a b = nat_cmp a.0 b.0

-- paths by the first step in which they differ; a path stands before those that lead on from it
abbrev pub path_cmp : List InstId → List InstId → Ordering
path_cmp = slice_cmp step_cmp

pub path_total : IsTotalOrder path_cmp
path_total = lists_total (on_total (λ (step : InstId). step.0) nat_cmp_total)
