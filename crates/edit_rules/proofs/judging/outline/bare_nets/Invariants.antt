-- The first nets stand in the outline, and the next one comes after them.
use Rattle.std.proofs.Common.{◌≡◌, ◌-◌, length, slice_get, option_map}
use Rattle.emh_base.specs.declared.plain.PNet.{PNet}
use Rattle.flatten_rules.specs.Lookup.{module_of}
use Rattle.edit_rules.specs.Readers.{nets_of}
use Rattle.edit_rules.specs.inside.Outline.{bare_net}
use Rattle.edit_rules.proofs.OutlineLemmas.{Walked}
use Rattle.edit_rules.proofs.judging.outline.bare_nets.Given as goal

abbrev pub invariant-loop-next : goal.invariant-loop-next
invariant-loop-next g l =
    (l.next ≡ option_map (λ (net : PNet). net.id) (slice_get (nets_of (module_of (g.F.Facts.state l.facts).plain l.fn.id)) (length l.nets)))
    × Walked (bare_net l.name) (nets_of (module_of (g.F.Facts.state l.facts).plain l.fn.id)) l.nets

abbrev pub decreases-loop-next : goal.decreases-loop-next
decreases-loop-next g l = length (nets_of (module_of (g.F.Facts.state l.facts).plain l.fn.id)) - length l.nets
