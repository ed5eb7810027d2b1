use Rattle.std.proofs.Common.{refl}
use Rattle.word_table.specs.LineWords.{line_texts}
use Rattle.script_read.proofs.laws.first_words_are_known.Goals as goal

pub returns : goal.returns
unfolding line_texts
returns c = refl
