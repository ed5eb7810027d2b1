-- The numbers are those of the modules so far.
use Rattle.std.proofs.Common.{◌≡◌, ◌+◌, map, take}
use Rattle.emh_base.specs.declared.plain.PModule.{PModule}
use Rattle.flatten_rules.specs.inside.Levels.{counted}
use Rattle.flatten_rules.proofs.count.next_level.Given as goal

abbrev pub invariant-loop-holder : goal.invariant-loop-holder
invariant-loop-holder g l =
    l.made ≡ map (λ (m : PModule). counted (g.X.Measure.weight l.measure) l.plain (l.levels + 1) m.id) (take l.holder-index l.holder-items)
