-- The test of each class of bytes that runs are made of.
use Rattle.std.specs.Prelude.{ℕ, Bool}
use Rattle.vlog_lex.specs.declared.class.Class.{Class}
use Rattle.vlog_lex.specs.declared.class.Class.TheVariants.{White, Blank, Word, Number, Literal, Graphic}
use Rattle.vlog_lex.specs.Byte.{is_white, is_blank, is_word_byte, is_number_byte, is_literal_byte, is_graphic}

abbrev pub test_of : Class → ℕ → Bool
test_of White = is_white
test_of Blank = is_blank
test_of Word = is_word_byte
test_of Number = is_number_byte
test_of Literal = is_literal_byte
test_of Graphic = is_graphic
