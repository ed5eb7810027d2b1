-- The numbers are those down to the levels so far.
use Rattle.std.proofs.Common.{◌≡◌}
use Rattle.flatten_rules.specs.inside.Levels.{level_of}
use Rattle.flatten_rules.proofs.count.last_level.Given as goal

abbrev pub invariant-loop-levels : goal.invariant-loop-levels
invariant-loop-levels g l = l.level ≡ level_of (g.X.Measure.weight l.measure) l.plain l.levels
