use Rattle.std.proofs.Common.{◌≡◌, length}
use Rattle.session_tests.proofs.steps.plays.Given as goal

abbrev pub invariant-loop-step : goal.invariant-loop-step
invariant-loop-step g l = length l.watch ≡ length l.session.enabled
