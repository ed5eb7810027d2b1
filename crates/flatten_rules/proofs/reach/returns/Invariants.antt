-- The nodes that were reached are reached, and the edges of those before the place were followed.
use Rattle.std.proofs.Common.{◌≡◌, length}
use Rattle.flatten_rules.proofs.Following.{Followed}
use Rattle.flatten_rules.proofs.reach.returns.Given as goal

abbrev pub invariant-loop-at : goal.invariant-loop-at
invariant-loop-at l = (l.reached.1 ≡ length l.graph) × Followed l.graph l.node l.at l.reached.0
