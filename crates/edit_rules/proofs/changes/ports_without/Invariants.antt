-- What was kept so far is what stays of the front of the list.
use Rattle.std.proofs.Common.{◌≡◌, ◌==◌, not, filter, take}
use Rattle.edit_rules.proofs.changes.ports_without.Given as goal

abbrev pub invariant-loop-other : goal.invariant-loop-other
invariant-loop-other l = l.made ≡ filter (λ other. not (other.net.0 == l.port.0)) (take l.other-index l.other-items)
