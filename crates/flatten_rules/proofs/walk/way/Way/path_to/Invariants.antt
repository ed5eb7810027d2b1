use Rattle.std.proofs.Common.{◌≡◌, take}
use Rattle.flatten_rules.specs.inside.Steps.{path_of}
use Rattle.flatten_rules.proofs.walk.way.Way.path_to.Given as goal

-- The path so far is that of the steps so far.
abbrev pub invariant-loop-step : goal.invariant-loop-step
invariant-loop-step l = l.path ≡ path_of (take l.step-index l.step-items)
