-- What is found by one rule is found by another that it implies.
use Rattle.std.proofs.Common.{◌≡◌, sym, subst, ℕ, ◌+◌, ◌<◌, List, length, get_or}
use Rattle.std.specs.Prelude.{Result, Ok, Err}
use Rattle.vlog_lex.specs.declared.found.Found.{Found}
use Rattle.vlog_lex.specs.declared.token.LexFault.{LexFault}
use Rattle.vlog_lex.specs.declared.token.LexFault.TheVariants.{BadByte, OpenComment, OpenAttribute, BadLiteral, LongName, Directive, NoMemory}
use Rattle.vlog_lex.specs.declared.case.Case.{Case}
use Rattle.vlog_lex.specs.Piece.{Kind, Fault, Piece, PieceBy, case_of}
use Rattle.vlog_lex.specs.Found.{UnlessNoMemory, Finds, kind_of}

-- a fact of every fault holds unless memory was wanting
pub fault_map : (P Q : LexFault → Type 0) → ((fault : LexFault) → P fault → Q fault) → (fault : LexFault)
    → UnlessNoMemory P fault → UnlessNoMemory Q fault
fault_map P Q implies NoMemory holds = tt
fault_map P Q implies (BadByte a) holds = implies (BadByte a) holds
fault_map P Q implies (OpenComment a) holds = implies (OpenComment a) holds
fault_map P Q implies (OpenAttribute a) holds = implies (OpenAttribute a) holds
fault_map P Q implies (BadLiteral a) holds = implies (BadLiteral a) holds
fault_map P Q implies (LongName a) holds = implies (LongName a) holds
fault_map P Q implies (Directive a) holds = implies (Directive a) holds

pub finds_map : (P Q : ℕ → Kind → Type 0) → ((b : ℕ) (kind : Kind) → P b kind → Q b kind)
    → (result : Result Found LexFault)
    → Finds P result → Finds Q result
finds_map P Q implies (Ok found) holds = implies found.end (kind_of found.token) holds
finds_map P Q implies (Err fault) holds =
    fault_map (λ it. (b : ℕ) × P b (Fault it)) (λ it. (b : ℕ) × Q b (Fault it))
    (λ it (b, here). (b, implies b (Fault it) here)) fault holds

-- what is found by the rule that applies is the piece
pub by_rule : (rule : Case) (bytes : List ℕ) (a : ℕ) → a < length bytes
    → case_of (get_or bytes a 0) (get_or bytes (a + 1) 0) ≡ rule
    → (result : Result Found LexFault) → Finds (PieceBy rule bytes a) result → Finds (Piece bytes a) result
by_rule rule bytes a within applies result found =
    finds_map (PieceBy rule bytes a) (Piece bytes a)
    (λ b kind is. (within, subst (λ r. PieceBy r bytes a b kind) (sym applies) is)) result found
