use Rattle.std.proofs.Common.{length, take, ◌-◌, ◌≡◌, ◌≤◌}
use Rattle.emh_shell.proofs.netlists.are_same.Given as goal

-- The lines so far are the same.
abbrev pub invariant-loop-at : goal.invariant-loop-at
invariant-loop-at l = record {
  within : l.at ≤ length l.lines;
  as_many : length l.lines ≡ length l.others;
  so_far : take l.at l.lines ≡ take l.at l.others;
}

abbrev pub decreases-loop-at : goal.decreases-loop-at
decreases-loop-at l = length l.lines - l.at
