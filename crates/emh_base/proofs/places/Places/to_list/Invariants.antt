-- The list so far and what the iterator has left are the entries.
use Rattle.std.proofs.Common.{◌≡◌, ◌++◌}
use Rattle.std.specs.FinMap as map
use Rattle.emh_base.proofs.places.Places.to_list.Given as goal

abbrev pub invariant-loop-path : goal.invariant-loop-path
invariant-loop-path l = l.list ++ l.path-iterator ≡ map.entries l.self
