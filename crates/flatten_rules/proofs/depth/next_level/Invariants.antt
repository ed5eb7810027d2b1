-- The heights are those of the modules so far.
use Rattle.std.proofs.Common.{◌≡◌, ◌+◌, map, take}
use Rattle.emh_base.specs.declared.plain.PModule.{PModule}
use Rattle.flatten_rules.specs.Counting.{height}
use Rattle.flatten_rules.proofs.depth.next_level.Given as goal

abbrev pub invariant-loop-holder : goal.invariant-loop-holder
invariant-loop-holder l = l.made ≡ map (λ (m : PModule). height l.plain m.id (l.levels + 1)) (take l.holder-index l.holder-items)
