-- The ports at the places so far are alike.
use Rattle.std.proofs.Common.{◌≡◌, ℕ, ◌<◌, true}
use Rattle.flatten_rules.specs.Lookup.{module_of}
use Rattle.edit_rules.specs.inside.Ports.{are_alike_at}
use Rattle.edit_rules.proofs.judging.ports.same_ports.Given as goal

abbrev pub invariant-loop-place : goal.invariant-loop-place
invariant-loop-place g l =
    (k : ℕ) → k < l.place → are_alike_at (module_of (g.F.Facts.state l.facts).plain l.fn.a) (module_of (g.F.Facts.state l.facts).plain l.fn.b) k ≡ true
