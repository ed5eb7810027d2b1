-- The places are those of the ports of the modules so far.
use Rattle.flatten_rules.proofs.Checking.{FirstPlaces}
use Rattle.flatten_rules.proofs.port.all_port_places.Given as goal

abbrev pub invariant-loop-holder : goal.invariant-loop-holder
invariant-loop-holder l = FirstPlaces l.plain l.holder-index l.all.items
