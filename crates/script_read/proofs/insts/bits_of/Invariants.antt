use Rattle.std.proofs.Common.{◌≡◌, ◌++◌, drop}
use Rattle.std.specs.Prelude.{option_map}
use Rattle.word_table.specs.Texts.{texts}
use Rattle.script_read.specs.Form.{bits_of}
use Rattle.script_read.proofs.insts.bits_of.Given as goal

abbrev pub invariant-loop-word : goal.invariant-loop-word
invariant-loop-word l = option_map (λ bits. l.bits ++ bits) (bits_of (drop l.word-index (texts l.words))) ≡ bits_of (texts l.words)
