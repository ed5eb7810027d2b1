use Rattle.std.proofs.Common.{◌≡◌, take}
use Rattle.flatten_rules.proofs.walk.way.Way.has_path_at.Given as goal

-- The two paths are the same so far.
abbrev pub invariant-loop-at : goal.invariant-loop-at
invariant-loop-at l = take l.at l.self.path ≡ take l.at l.steps
