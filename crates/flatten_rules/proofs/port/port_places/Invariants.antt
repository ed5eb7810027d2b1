-- The ports so far have nets of their own, and their places are known.
use Rattle.std.proofs.Common.{take}
use Rattle.flatten_rules.proofs.Checking.{Placed}
use Rattle.flatten_rules.proofs.port.port_places.Given as goal

abbrev pub invariant-loop-at : goal.invariant-loop-at
invariant-loop-at l = Placed l.holder (take l.at l.holder.ports) l.places.items
