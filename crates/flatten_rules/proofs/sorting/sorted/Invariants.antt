-- The texts so far stand in the list.
use Rattle.std.proofs.Common.{◌≡◌}
use Rattle.flatten_rules.proofs.sorting.sorted.Given as goal

abbrev pub invariant-loop-text : goal.invariant-loop-text
invariant-loop-text l = l.rising ≡ l.yielded
