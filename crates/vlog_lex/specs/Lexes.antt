-- The tokens of bytes, or the fault that keeps them from having any.
use Rattle.std.specs.Prelude.{◌≡◌, ◌⊎◌, ℕ, ◌<◌, ◌≤◌, ◌^◌, List, [], ◌∷◌, length}
use Rattle.vlog_lex.specs.declared.token.Token.{Token}
use Rattle.vlog_lex.specs.declared.token.TokenKind.{TokenKind}
use Rattle.vlog_lex.specs.declared.token.TokenKind.TheVariants.{Ident, Reserved, Cell, EndCell, Number, Literal, Mark}
use Rattle.vlog_lex.specs.declared.token.LexFault.{LexFault}
use Rattle.vlog_lex.specs.Piece.{Kind, Blank, Tok, Fault, Piece}

-- a piece and where it ends
pub record Step : Type 0 where
  pub end : ℕ
  pub kind : Kind

-- a blank or a token
abbrev pub IsSound : Kind → Type 0
IsSound Blank = Unit {0}
IsSound (Tok token) = Unit {0}
IsSound (Fault fault) = ⊥

-- pieces that are no faults lead from a to b
abbrev pub Leads : List ℕ → ℕ → List Step → ℕ → Type 0
Leads bytes a [] b = a ≡ b
Leads bytes a (step ∷ steps) b = Piece bytes a step.end step.kind × IsSound step.kind × Leads bytes step.end steps b

-- a token with its span, and the tokens of pieces that begin at a
abbrev pub with_token : Kind → ℕ → ℕ → List Token → List Token
with_token Blank a b tokens = tokens
with_token (Tok kind) a b tokens = record { kind = kind; at = a; end = b } ∷ tokens
with_token (Fault fault) a b tokens = tokens

abbrev pub tokens_of : ℕ → List Step → List Token
tokens_of a [] = []
tokens_of a (step ∷ steps) = with_token step.kind a step.end (tokens_of step.end steps)

-- these are the tokens of the bytes: pieces without a fault lead from 0 to the end
unfoldable pub Lexes : List ℕ → List Token → Type 0
Lexes bytes tokens = (steps : List Step) × Leads bytes 0 steps (length bytes) × (tokens ≡ tokens_of 0 steps)

-- the bytes have this fault: pieces without one lead from 0 to the piece that is it
unfoldable pub HasFault : List ℕ → LexFault → Type 0
HasFault bytes fault =
    (steps : List Step) × (a : ℕ) × (b : ℕ) × Leads bytes 0 steps a × Piece bytes a b (Fault fault)

-- bytes have tokens or a fault, never both, and only one list of tokens or one fault
pub record HasOneAnswer (bytes : List ℕ) : Type 0 where
  pub some : ((tokens : List Token) × Lexes bytes tokens) ⊎ ((fault : LexFault) × HasFault bytes fault)
  pub not_both : (tokens : List Token) (fault : LexFault) → Lexes bytes tokens → HasFault bytes fault → ⊥
  pub one_list : (some other : List Token) → Lexes bytes some → Lexes bytes other → some ≡ other
  pub one_fault : (some other : LexFault) → HasFault bytes some → HasFault bytes other → some ≡ other

-- a reserved word has a row of the table, and a literal 1 to 128 bits that hold its value
abbrev pub IsInRange : TokenKind → Type 0
IsInRange (Ident name) = Unit {0}
IsInRange (Reserved row) = row < 124
IsInRange Cell = Unit {0}
IsInRange EndCell = Unit {0}
IsInRange (Number value) = Unit {0}
IsInRange (Literal size value) = (1 ≤ size) × (size ≤ 128) × (value < 2 ^ size)
IsInRange (Mark byte) = Unit {0}
