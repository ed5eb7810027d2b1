-- Bytes have no more tokens than they are.
use Rattle.std.proofs.Common.{ℕ, ◌+◌, ◌≤◌, List, [], ◌∷◌, length, subst, sym, arith}
use Rattle.std.specs.Prelude.{Result, Ok, Err, IfOk}
use Rattle.vlog_lex.specs.declared.token.Token.{Token}
use Rattle.vlog_lex.specs.declared.token.Tokens.{Tokens}
use Rattle.vlog_lex.specs.declared.token.LexFault.{LexFault}
use Rattle.vlog_lex.specs.Piece.{Kind, Blank, Tok, Fault}
use Rattle.vlog_lex.specs.Lexes.{Step, Leads, with_token, tokens_of, Lexes}
use Rattle.vlog_lex.proofs.Pieces.{piece_moves}

one_more : (kind : Kind) (a b : ℕ) (tokens : List Token) → length (with_token kind a b tokens) ≤ length tokens + 1
one_more Blank a b tokens = omega arith
one_more (Tok token) a b tokens = omega arith
one_more (Fault fault) a b tokens = omega arith

few_on_way : (bytes : List ℕ) (a : ℕ) (steps : List Step) (b : ℕ) → Leads bytes a steps b → length (tokens_of a steps) + a ≤ b
few_on_way bytes a [] b way = omega (arith, way)
few_on_way bytes a (s ∷ ss) b (piece, sound, way) =
    let onward = (piece_moves bytes a s.end s.kind piece sound).0 in
    omega (arith, onward, few_on_way bytes s.end ss b way, one_more s.kind a s.end (tokens_of s.end ss))

pub lexes_few : (bytes : List ℕ) (tokens : List Token) → Lexes bytes tokens → length tokens ≤ length bytes
unfolding Lexes
lexes_few bytes tokens (steps, way, are) =
    let Few : List Token → Type 0 = λ ts. length ts ≤ length bytes in
    subst Few (sym are) (omega (arith, few_on_way bytes 0 steps (length bytes) way))

pub few : (bytes : List ℕ) (result : Result Tokens LexFault) → IfOk result (λ read. Lexes bytes read.items)
    → IfOk result (λ read. length read.items ≤ length bytes)
few bytes (Ok read) is = lexes_few bytes read.items is
few bytes (Err fault) is = tt
