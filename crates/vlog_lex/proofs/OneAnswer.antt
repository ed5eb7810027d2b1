-- All bytes have one list of tokens or one fault.
use Rattle.std.proofs.Common.{◌≡◌, refl, sym, ◌∙◌, subst, ℕ, List, length, arith, inl, inr, ◌⊎◌, Some, None}
use Rattle.std.specs.Prelude.{Result, Ok, Err, IfOk, IfErr, MatchResult}
use Rattle.vlog_lex.specs.declared.token.Token.{Token}
use Rattle.vlog_lex.specs.declared.token.Tokens.{Tokens}
use Rattle.vlog_lex.specs.Found.{UnlessNoMemory}
use Rattle.vlog_lex.proofs.Finding.{fault_map}
use Rattle.vlog_lex.specs.declared.token.LexFault.{LexFault}
use Rattle.vlog_lex.specs.Lexes.{Lexes, HasFault, Leads, tokens_of}
use Rattle.vlog_lex.specs.Law.{EachHasOneAnswer}
use Rattle.vlog_lex.proofs.Readings.{Reading, readings_once, reading_there}

pub one_list : (bytes : List ℕ) (tokens others : List Token) → Lexes bytes tokens → Lexes bytes others
    → tokens ≡ others
unfolding Lexes
one_list bytes tokens others (steps, way, is) (steps', way', is') =
    is ∙ (readings_once bytes 0 steps steps' (length bytes) (length bytes) None None way refl way' refl).0 ∙ sym is'

pub one_fault : (bytes : List ℕ) (fault other : LexFault) → HasFault bytes fault → HasFault bytes other
    → fault ≡ other
unfolding HasFault
one_fault bytes fault other (steps, a, b, way, piece) (steps', a', b', way', piece') =
    let same = (readings_once bytes 0 steps steps' a a' (Some fault) (Some other) way (b, piece) way' (b', piece')).1
    in cc

pub not_both : (bytes : List ℕ) (tokens : List Token) (fault : LexFault) → Lexes bytes tokens → HasFault bytes fault
    → ⊥
unfolding Lexes HasFault
not_both bytes tokens fault (steps, way, is) (steps', a, b, way', piece) =
    let same = (readings_once bytes 0 steps steps' (length bytes) a None (Some fault) way refl way' (b, piece)).1
    in cc

some : (bytes : List ℕ) → Reading bytes 0
    → ((tokens : List Token) × Lexes bytes tokens) ⊎ ((fault : LexFault) × HasFault bytes fault)
unfolding Lexes HasFault
some bytes (steps, b, None, way, ends) =
    inl (tokens_of 0 steps, (steps, subst (λ k. Leads bytes 0 steps k) ends way, refl))
some bytes (steps, b, Some fault, way, (c, piece)) = inr (fault, (steps, b, c, way, piece))

pub law : EachHasOneAnswer
law bytes = record {
  some = some bytes (reading_there bytes (length bytes) 0 (omega arith) (omega arith));
  not_both = not_both bytes;
  one_list = one_list bytes;
  one_fault = one_fault bytes;
}

-- what was answered is what the bytes have
pub each_list : (bytes : List ℕ) (result : Result Tokens LexFault) → IfOk result (λ read. Lexes bytes read.items)
    → IfErr result (UnlessNoMemory (HasFault bytes)) → (tokens : List Token) → Lexes bytes tokens
    → MatchResult result (λ read. read.items ≡ tokens) (UnlessNoMemory (λ _. ⊥))
each_list bytes (Ok read) is fault tokens are = one_list bytes read.items tokens is are
each_list bytes (Err it) is fault tokens are =
    fault_map (HasFault bytes) (λ _. ⊥) (λ other has. not_both bytes tokens other are has) it fault

pub each_fault : (bytes : List ℕ) (result : Result Tokens LexFault) → IfOk result (λ read. Lexes bytes read.items)
    → IfErr result (UnlessNoMemory (HasFault bytes)) → (fault : LexFault) → HasFault bytes fault
    → MatchResult result (λ _. ⊥) (UnlessNoMemory (λ it. it ≡ fault))
each_fault bytes (Ok read) is none fault has = not_both bytes read.items fault is has
each_fault bytes (Err it) is some fault has =
    fault_map (HasFault bytes) (λ other. other ≡ fault) (λ other also. one_fault bytes other fault also has) it some
