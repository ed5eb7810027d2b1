-- What the call that reads one piece answers.
use Rattle.std.specs.Prelude.{ℕ, Option, Some, None, Result, Ok, Err}
use Rattle.vlog_lex.specs.declared.found.Found.{Found}
use Rattle.vlog_lex.specs.declared.token.TokenKind.{TokenKind}
use Rattle.vlog_lex.specs.declared.token.LexFault.{LexFault}
use Rattle.vlog_lex.specs.declared.token.LexFault.TheVariants.{BadByte, OpenComment, OpenAttribute, BadLiteral, LongName, Directive, NoMemory}
use Rattle.vlog_lex.specs.Piece.{Kind, Blank, Tok, Fault}

-- a piece with no token is passed over
abbrev pub kind_of : Option TokenKind → Kind
kind_of None = Blank
kind_of (Some token) = Tok token

-- P holds of a fault, unless memory was wanting
abbrev pub UnlessNoMemory : (LexFault → Type 0) → LexFault → Type 0
UnlessNoMemory P NoMemory = Unit {0}
UnlessNoMemory P (BadByte a) = P (BadByte a)
UnlessNoMemory P (OpenComment a) = P (OpenComment a)
UnlessNoMemory P (OpenAttribute a) = P (OpenAttribute a)
UnlessNoMemory P (BadLiteral a) = P (BadLiteral a)
UnlessNoMemory P (LongName a) = P (LongName a)
UnlessNoMemory P (Directive a) = P (Directive a)

-- P holds of where a piece ends and of its kind; where a fault ends is not told
abbrev pub Finds : (ℕ → Kind → Type 0) → Result Found LexFault → Type 0
Finds P (Ok found) = P found.end (kind_of found.token)
Finds P (Err fault) = UnlessNoMemory (λ it. (b : ℕ) × P b (Fault it)) fault
