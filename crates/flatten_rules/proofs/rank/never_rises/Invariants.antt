-- The edges of the nodes so far don't rise.
use Rattle.std.proofs.Common.{ℕ, ◌<◌, ◌≤◌, All}
use Rattle.flatten_rules.specs.Graph.{next, rank_of}
use Rattle.flatten_rules.proofs.rank.never_rises.Given as goal

abbrev pub invariant-loop-node : goal.invariant-loop-node
invariant-loop-node l = (a : ℕ) → a < l.node → All (λ b. rank_of l.ranks b ≤ rank_of l.ranks a) (next l.graph a)
