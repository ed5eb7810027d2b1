use Rattle.std.proofs.Common.{◌≡◌, ◌≤◌, ◌++◌, drop}
use Rattle.std.specs.Prelude.{slice_range}
use Rattle.word_table.specs.Texts.{texts}
use Rattle.script_read.specs.Word.{pieces_after, pieces}
use Rattle.script_read.proofs.word.pieces.Given as goal

abbrev pub invariant-loop-at : goal.invariant-loop-at
invariant-loop-at l = record {
  within : l.from ≤ l.at;
  rest : texts l.found.items ++ pieces_after l.stop l.marked (slice_range l.text l.from l.at) (drop l.at l.text) ≡ pieces l.stop l.text;
}
