-- The first instances stand in the outline, and the next one comes after them.
use Rattle.std.proofs.Common.{◌≡◌, ◌-◌, length, slice_get, option_map}
use Rattle.emh_base.specs.declared.plain.PInst.{PInst}
use Rattle.flatten_rules.specs.Lookup.{module_of, insts_of}
use Rattle.edit_rules.specs.inside.Outline.{bare_inst}
use Rattle.edit_rules.proofs.OutlineLemmas.{Walked}
use Rattle.edit_rules.proofs.judging.outline.bare_insts.Given as goal

abbrev pub invariant-loop-next : goal.invariant-loop-next
invariant-loop-next g l =
    (l.next ≡ option_map (λ (inst : PInst). inst.id) (slice_get (insts_of (module_of (g.F.Facts.state l.facts).plain l.fn.id)) (length l.insts)))
    × Walked (bare_inst l.name) (insts_of (module_of (g.F.Facts.state l.facts).plain l.fn.id)) l.insts

abbrev pub decreases-loop-next : goal.decreases-loop-next
decreases-loop-next g l = length (insts_of (module_of (g.F.Facts.state l.facts).plain l.fn.id)) - length l.insts
