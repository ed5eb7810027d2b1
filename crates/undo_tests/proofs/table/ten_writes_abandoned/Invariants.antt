use Rattle.std.proofs.Common.{◌≡◌, ◌+◌, ◌<◌, ◌≤◌, length, true}
use Rattle.undo_tests.proofs.table.ten_writes_abandoned.Given as goal

abbrev pub invariant-loop-value : goal.invariant-loop-value
invariant-loop-value g l = record {
  is_open : l.table.is_open ≡ true;
  spare : 10 ≤ l.table.spare_writes + l.value;
  remembered : 0 < length l.table.past;
}
