-- The first modules stand in the outline, and the next one comes after them.
use Rattle.std.proofs.Common.{◌≡◌, ◌-◌, length, slice_get, option_map}
use Rattle.emh_base.specs.declared.plain.PModule.{PModule}
use Rattle.edit_rules.specs.inside.Outline.{grown}
use Rattle.edit_rules.proofs.OutlineLemmas.{Walked}
use Rattle.edit_rules.proofs.judging.outline.grown_outline.Given as goal

abbrev pub invariant-loop-next : goal.invariant-loop-next
invariant-loop-next g l =
    (l.next ≡ option_map (λ (m : PModule). m.id) (slice_get (g.F.Facts.state l.facts).plain.modules (length l.modules)))
    × Walked (grown l.name l.id l.master) (g.F.Facts.state l.facts).plain.modules l.modules

abbrev pub decreases-loop-next : goal.decreases-loop-next
decreases-loop-next g l = length (g.F.Facts.state l.facts).plain.modules - length l.modules
