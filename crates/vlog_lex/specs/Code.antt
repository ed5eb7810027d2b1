-- The numbers by which faults of tokens are told in print.
use Rattle.std.specs.Prelude.{ℕ}
use Rattle.vlog_lex.specs.declared.token.LexFault.{LexFault}
use Rattle.vlog_lex.specs.declared.token.LexFault.TheVariants.{BadByte, OpenComment, OpenAttribute, BadLiteral, LongName, Directive, NoMemory}

-- want of memory is never told
abbrev pub lex_code : LexFault → ℕ
lex_code (BadByte at) = 41
lex_code (OpenComment at) = 42
lex_code (OpenAttribute at) = 43
lex_code (BadLiteral at) = 44
lex_code (LongName at) = 45
lex_code (Directive at) = 46
lex_code NoMemory = 0
