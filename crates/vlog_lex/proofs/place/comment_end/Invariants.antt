use Rattle.std.proofs.Common.{◌≡◌, ℕ, ◌<◌, ◌≤◌, false}
use Rattle.vlog_lex.specs.Byte.{star, slash}
use Rattle.vlog_lex.specs.Place.{both_at}
use Rattle.vlog_lex.proofs.place.comment_end.Given as goal

abbrev pub invariant-loop-end : goal.invariant-loop-end
invariant-loop-end l = (k : ℕ) → l.start ≤ k → k < l.end → both_at star slash l.bytes k ≡ false
