-- Readings, piece after piece: no two differ, one there always is, and how one grows.
use Rattle.std.proofs.Common.{◌≡◌, refl, sym, ◌∙◌, ap, subst, ℕ, zero, suc, ◌+◌, ◌<◌, ◌≤◌, List, [], ◌∷◌, ◌++◌, length, arith, inl, inr, append-nil, Option, Some, None}
use Rattle.std.proofs.lemmas.Bool.{cases_lt}
use Rattle.vlog_lex.specs.declared.token.Token.{Token}
use Rattle.vlog_lex.specs.declared.token.LexFault.{LexFault}
use Rattle.vlog_lex.specs.declared.token.TokenKind.{TokenKind}
use Rattle.vlog_lex.specs.Found.{kind_of}
use Rattle.vlog_lex.specs.Piece.{Kind, Blank, Tok, Fault, Piece}
use Rattle.vlog_lex.specs.Lexes.{Step, IsSound, Leads, with_token, tokens_of, Lexes, HasFault}
use Rattle.vlog_lex.proofs.Pieces.{piece_once, piece_there, piece_moves}

-- where a reading ends: at the end of the bytes, or at a fault
abbrev pub Ends : List ℕ → ℕ → Option LexFault → Type 0
Ends bytes a None = a ≡ length bytes
Ends bytes a (Some fault) = (b : ℕ) × Piece bytes a b (Fault fault)

-- where a reading ends, no sound piece stands
goes_on : (bytes : List ℕ) (a b : ℕ) (kind : Kind) (last : Option LexFault) → Ends bytes a last → Piece bytes a b kind
    → IsSound kind → ⊥
goes_on bytes a b kind None ends (within, is) sound = omega (arith, ends, within)
goes_on bytes a b kind (Some fault) (c, piece) other sound =
    subst IsSound (piece_once bytes a b c kind (Fault fault) other piece).1 sound

fault_once : (fault other : LexFault) → Fault fault ≡ Fault other → fault ≡ other
fault_once fault other same = cc

ends_once : (bytes : List ℕ) (a : ℕ) (last other : Option LexFault) → Ends bytes a last → Ends bytes a other
    → last ≡ other
ends_once bytes a None None ends ends' = refl
ends_once bytes a None (Some fault) ends (b, (within, is)) = absurd (omega (arith, ends, within))
ends_once bytes a (Some fault) None (b, (within, is)) ends = absurd (omega (arith, ends, within))
ends_once bytes a (Some fault) (Some other) (b, piece) (c, piece') =
    ap Some (fault_once fault other (piece_once bytes a b c (Fault fault) (Fault other) piece piece').1)

-- two readings from a place have the same tokens and end alike
pub readings_once : (bytes : List ℕ) (a : ℕ) (steps others : List Step) (b c : ℕ) (last other : Option LexFault)
    → Leads bytes a steps b → Ends bytes b last → Leads bytes a others c → Ends bytes c other
    → (tokens_of a steps ≡ tokens_of a others) × (last ≡ other)
readings_once bytes a [] [] b c last other way ends way' ends' = (
  refl,
  ends_once bytes a last other (subst (λ k. Ends bytes k last) (sym way) ends)
      (subst (λ k. Ends bytes k other) (sym way') ends'),
)
readings_once bytes a [] (t ∷ ts) b c last other way ends (piece, sound, way') ends' =
    absurd (goes_on bytes a t.end t.kind last (subst (λ k. Ends bytes k last) (sym way) ends) piece sound)
readings_once bytes a (s ∷ ss) [] b c last other (piece, sound, way) ends way' ends' =
    absurd (goes_on bytes a s.end s.kind other (subst (λ k. Ends bytes k other) (sym way') ends') piece sound)
readings_once bytes a (s ∷ ss) (t ∷ ts) b c last other (piece, sound, way) ends (piece', sound', way') ends' =
    let (end, kind) = piece_once bytes a t.end s.end t.kind s.kind piece' piece in
    let (tokens, same) =
    readings_once bytes s.end ss ts b c last other way ends (subst (λ k. Leads bytes k ts c) end way') ends' in (
      ap (with_token s.kind a s.end) tokens
          ∙ ap (λ k. with_token k a s.end (tokens_of s.end ts)) (sym kind)
          ∙ ap (λ e. with_token t.kind a e (tokens_of e ts)) (sym end),
      same,
    )

-- a reading to its end
abbrev pub Reading : List ℕ → ℕ → Type 0
Reading bytes a = (steps : List Step) × (b : ℕ) × (last : Option LexFault) × Leads bytes a steps b × Ends bytes b last

-- one more piece in front
in_front : (bytes : List ℕ) (a b : ℕ) (kind : Kind) → Piece bytes a b kind → IsSound kind → Reading bytes b
    → Reading bytes a
in_front bytes a b kind piece sound (steps, c, last, way, ends) =
    (record { end = b; kind = kind } ∷ steps, c, last, (piece, sound, way), ends)

-- there is a reading from each place within the bytes
pub reading_there : (bytes : List ℕ) (fuel a : ℕ) → length bytes ≤ a + fuel → a ≤ length bytes → Reading bytes a
reading_there bytes zero a enough within = ([], a, None, refl, omega arith)
reading_there bytes (suc fuel) a enough within =
    elim (cases_lt a (length bytes)) [
      | inl low ↦ let (b, kind, piece) = piece_there bytes a low in by_kind b kind piece (reading_there bytes fuel)
      | inr past ↦ ([], a, None, refl, omega arith)
    ]
  where
    by_kind : (b : ℕ) (kind : Kind) → Piece bytes a b kind
        → ((k : ℕ) → length bytes ≤ k + fuel → k ≤ length bytes → Reading bytes k) → Reading bytes a
    by_kind b Blank piece rest =
        let (onward, inside) = piece_moves bytes a b Blank piece tt in
        in_front bytes a b Blank piece tt (rest b (omega (arith, onward)) inside)
    by_kind b (Tok token) piece rest =
        let (onward, inside) = piece_moves bytes a b (Tok token) piece tt in
        in_front bytes a b (Tok token) piece tt (rest b (omega (arith, onward)) inside)
    by_kind b (Fault fault) piece rest = ([], a, Some fault, refl, (b, piece))

-- what the loop keeps: the tokens so far are those of pieces that lead to this place
pub record ReadTo (bytes : List ℕ) (tokens : List Token) (a : ℕ) : Type 0 where
  pub steps : List Step
  pub way : Leads bytes 0 steps a
  pub are : tokens ≡ tokens_of 0 steps
  pub within : a ≤ length bytes

way_more : (bytes : List ℕ) (a : ℕ) (steps : List Step) (b c : ℕ) (kind : Kind) → Leads bytes a steps b
    → Piece bytes b c kind → IsSound kind
    → Leads bytes a (steps ++ record { end = c; kind = kind } ∷ []) c
way_more bytes a [] b c kind way piece sound = (subst (λ k. Piece bytes k c kind) (sym way) piece, sound, refl)
way_more bytes a (s ∷ ss) b c kind (first, sound', way) piece sound =
    (first, sound', way_more bytes s.end ss b c kind way piece sound)

with_token-append : (kind : Kind) (a b : ℕ) (tokens more : List Token)
    → with_token kind a b (tokens ++ more) ≡ with_token kind a b tokens ++ more
with_token-append Blank a b tokens more = refl
with_token-append (Tok token) a b tokens more = refl
with_token-append (Fault fault) a b tokens more = refl

tokens_more : (bytes : List ℕ) (a : ℕ) (steps : List Step) (b c : ℕ) (kind : Kind) → Leads bytes a steps b
    → tokens_of a (steps ++ record { end = c; kind = kind } ∷ []) ≡ tokens_of a steps ++ with_token kind b c []
tokens_more bytes a [] b c kind way = ap (λ k. with_token kind k c []) way
tokens_more bytes a (s ∷ ss) b c kind (first, sound, way) =
    ap (with_token s.kind a s.end) (tokens_more bytes s.end ss b c kind way)
    ∙ with_token-append s.kind a s.end (tokens_of s.end ss) (with_token kind b c [])

pub read_more : (bytes : List ℕ) (tokens : List Token) (a b : ℕ) (kind : Kind) → ReadTo bytes tokens a
    → Piece bytes a b kind → IsSound kind
    → ReadTo bytes (tokens ++ with_token kind a b []) b
read_more bytes tokens a b kind read piece sound = record {
  steps = read.steps ++ record { end = b; kind = kind } ∷ [];
  way = way_more bytes 0 read.steps a b kind read.way piece sound;
  are = ap (λ ts. ts ++ with_token kind a b []) read.are ∙ sym (tokens_more bytes 0 read.steps a b kind read.way);
  within = (piece_moves bytes a b kind piece sound).1;
}

-- the loop has read all, or comes to a fault
pub read_all : (bytes : List ℕ) (tokens : List Token) (a : ℕ) → ReadTo bytes tokens a → length bytes ≤ a
    → Lexes bytes tokens
unfolding Lexes
read_all bytes tokens a read past =
    let ends : a ≡ length bytes = omega (arith, read.within) in
    (read.steps, subst (λ k. Leads bytes 0 read.steps k) ends read.way, read.are)

pub read_fault : (bytes : List ℕ) (tokens : List Token) (a : ℕ) (fault : LexFault) → ReadTo bytes tokens a
    → (b : ℕ) × Piece bytes a b (Fault fault) → HasFault bytes fault
unfolding HasFault
read_fault bytes tokens a fault read (b, piece) = (read.steps, a, b, read.way, piece)

-- what a call found is sound
found_sound : (token : Option TokenKind) → IsSound (kind_of token)
found_sound None = tt
found_sound (Some token) = tt

pub found_moves : (bytes : List ℕ) (a b : ℕ) (token : Option TokenKind) → Piece bytes a b (kind_of token)
    → (a < b) × (b ≤ length bytes)
found_moves bytes a b token piece = piece_moves bytes a b (kind_of token) piece (found_sound token)

pub read_blank : (bytes : List ℕ) (tokens : List Token) (a b : ℕ) (token : Option TokenKind) → ReadTo bytes tokens a
    → Piece bytes a b (kind_of token) → token ≡ None → ReadTo bytes tokens b
read_blank bytes tokens a b token read piece none =
    let more = read_more bytes tokens a b Blank read (subst (λ t. Piece bytes a b (kind_of t)) none piece) tt in
    rw append-nil at more

pub read_token : (bytes : List ℕ) (tokens : List Token) (a b : ℕ) (token : Option TokenKind) (kind : TokenKind)
    → ReadTo bytes tokens a
    → Piece bytes a b (kind_of token) → token ≡ Some kind
    → ReadTo bytes (tokens ++ record { kind = kind; at = a; end = b } ∷ []) b
read_token bytes tokens a b token kind read piece some =
    read_more bytes tokens a b (Tok kind) read (subst (λ t. Piece bytes a b (kind_of t)) some piece) tt
