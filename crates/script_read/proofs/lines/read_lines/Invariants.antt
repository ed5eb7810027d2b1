use Rattle.std.proofs.Common.{◌≡◌, ◌+◌, ◌≤◌, length, drop}
use Rattle.script_read.specs.Script.{lines_from, with_front}
use Rattle.word_table.specs.Texts.{texts}
use Rattle.script_read.proofs.lines.read_lines.Given as goal

-- The lines so far stand in front of those that are left.
abbrev pub invariant-loop-at : goal.invariant-loop-at
invariant-loop-at l = record {
  front : with_front l.found (lines_from (l.at + 1) (drop l.at (texts l.lines))) ≡ lines_from 1 (texts l.lines);
  count : length l.found ≤ l.at;
}
