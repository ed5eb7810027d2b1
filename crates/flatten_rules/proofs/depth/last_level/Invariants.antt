-- The heights are those down to the levels so far.
use Rattle.std.proofs.Common.{◌≡◌}
use Rattle.flatten_rules.specs.inside.Levels.{heights}
use Rattle.flatten_rules.proofs.depth.last_level.Given as goal

abbrev pub invariant-loop-levels : goal.invariant-loop-levels
invariant-loop-levels l = l.level ≡ heights l.plain l.levels
