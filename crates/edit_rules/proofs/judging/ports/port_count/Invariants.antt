-- There are ports at the places so far.
use Rattle.std.proofs.Common.{◌≤◌, length}
use Rattle.flatten_rules.specs.Lookup.{module_of}
use Rattle.flatten_rules.specs.Domains.{ports_of}
use Rattle.edit_rules.proofs.judging.ports.port_count.Given as goal

abbrev pub invariant-loop-place : goal.invariant-loop-place
invariant-loop-place g l = l.place ≤ length (ports_of (module_of (g.F.Facts.state l.facts).plain l.fn.id))
