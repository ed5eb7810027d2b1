use Rattle.std.proofs.Common.{◌≡◌, ◌+◌, ◌≤◌, take, length}
use Rattle.vlog_elab.specs.Interfaces.{added}
use Rattle.vlog_elab.proofs.elaborate.recursive.Given as goal

abbrev pub invariant-loop-m : goal.invariant-loop-m
invariant-loop-m l = record {
  counted : l.next ≡ length l.table.modules + length (added l.table (take l.m-index l.modules));
  before : l.next ≤ l.place;
}
