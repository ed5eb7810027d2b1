use Rattle.std.proofs.Common.{◌≡◌, ◌+◌, ◌-◌, ◌≤◌, length, drop}
use Rattle.cases.specs.Compared.{common_lines}
use Rattle.cases.proofs.verdict.common_lines.Given as goal

-- What is counted so far and what is left to count.
abbrev pub invariant-loop-at : goal.invariant-loop-at
invariant-loop-at l = record {
  within : l.at ≤ length l.text;
  within_other : l.at ≤ length l.other;
  few : l.lines ≤ l.at;
  counted : l.lines + common_lines (drop l.at l.text) (drop l.at l.other) ≡ common_lines l.text l.other;
}

abbrev pub decreases-loop-at : goal.decreases-loop-at
decreases-loop-at l = length l.text - l.at
