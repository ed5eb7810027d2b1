-- What was copied so far is the front of the words.
use Rattle.std.proofs.Common.{◌≡◌, take}
use Rattle.word_table.specs.Texts.{texts}
use Rattle.script_read.proofs.lines.copied.Given as goal

abbrev pub invariant-loop-word : goal.invariant-loop-word
invariant-loop-word l = l.found ≡ texts (take l.word-index l.words)
