use Rattle.std.proofs.Common.{◌≡◌, ℕ, ◌<◌, ◌≤◌, false}
use Rattle.vlog_lex.specs.Class.{test_of}
use Rattle.vlog_lex.specs.Place.{stops}
use Rattle.vlog_lex.proofs.class.Class.run_end.Given as goal

abbrev pub invariant-loop-end : goal.invariant-loop-end
invariant-loop-end l = (k : ℕ) → l.start ≤ k → k < l.end → stops (test_of l.self) l.bytes k ≡ false
