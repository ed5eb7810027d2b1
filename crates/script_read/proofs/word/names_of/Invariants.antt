use Rattle.std.proofs.Common.{◌≡◌, ◌++◌, drop}
use Rattle.std.specs.Prelude.{option_map}
use Rattle.word_table.specs.Texts.{texts}
use Rattle.script_read.specs.Word.{names_of}
use Rattle.script_read.proofs.word.names_of.Given as goal

abbrev pub invariant-loop-word : goal.invariant-loop-word
invariant-loop-word l = option_map (λ names. l.names ++ names) (names_of (drop l.word-index (texts l.words))) ≡ names_of (texts l.words)
