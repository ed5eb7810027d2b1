-- With what the iterator has left put in, what is made so far is the map.
use Rattle.std.proofs.Common.{◌≡◌}
use Rattle.emh_base.proofs.PlacesLemmas.{with_entries}
use Rattle.emh_base.proofs.places.PlacesTryCopy.copy.Given as goal

abbrev pub invariant-loop-path : goal.invariant-loop-path
invariant-loop-path l = with_entries l.made l.path-iterator ≡ l.self
