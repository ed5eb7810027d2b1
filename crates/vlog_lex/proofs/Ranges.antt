-- What each token that is read keeps: rows of the table, and values that fit their bits.
use Rattle.std.proofs.Common.{◌≡◌, refl, sym, subst, ℕ, ◌+◌, ◌%◌, ◌^◌, Bool, true, false, nat_eq, nat_lt, nat_le, not, ◌&&◌, List, [], ◌∷◌, length, get_or, All, arith, inl, inr, Option, Some, None}
use Rattle.std.specs.Prelude.{slice_range, position, if◌then◌else◌, Result, Ok, Err, IfOk}
use Rattle.std.specs.Str.{bytes_eq}
use Rattle.std.proofs.lemmas.Bool.{and_parts, leb-true, cond_both}
use Rattle.std.proofs.lemmas.Nat.{mod_below, pow_pos}
use Rattle.std.proofs.lemmas.List.Quantifiers.{position-Some}
use Rattle.std.proofs.lemmas.List.Elements.{All-cons}
use Rattle.word_table.specs.Reserved.{reserved_texts}
use Rattle.vlog_lex.specs.declared.case.Case.{Case}
use Rattle.vlog_lex.specs.declared.case.Case.TheVariants.{White, LineComment, BlockComment, Attribute, Directive, Escaped, Word, Number, Apostrophe, Mark, Unfit}
use Rattle.vlog_lex.specs.declared.case.Directive as directives
use Rattle.vlog_lex.specs.declared.case.Directive.TheVariants.{Cell, EndCell, Timescale, DefaultNettype, Other}
use Rattle.vlog_lex.specs.declared.token.TokenKind.TheVariants as token
use Rattle.vlog_lex.specs.declared.token.LexFault.TheVariants as fault
use Rattle.vlog_lex.specs.declared.token.Token.{Token}
use Rattle.vlog_lex.specs.declared.token.Tokens.{Tokens}
use Rattle.vlog_lex.specs.declared.token.LexFault.{LexFault}
use Rattle.vlog_lex.specs.Byte.{is_white, apostrophe}
use Rattle.vlog_lex.specs.Number.{written, base_of, are_digits}
use Rattle.vlog_lex.specs.Piece.{Kind, Blank, Tok, Fault, PieceBy, DirectiveIs, NumberIs, directive_of, case_of, word_kind, reserved_or_ident, literal}
use Rattle.vlog_lex.specs.Lexes.{Step, Leads, with_token, tokens_of, Lexes, IsInRange}

-- a token in range, or no token
abbrev Held : Kind → Type 0
Held Blank = Unit {0}
Held (Tok kind) = IsInRange kind
Held (Fault fault) = Unit {0}

held_if : (test : Bool) (x y : Kind) → Held x → Held y → Held (if test then x else y)
held_if true x y this other = this
held_if false x y this other = other

table_length : length reserved_texts ≡ 124
unfolding reserved_texts
table_length = refl

word_held : (text : List ℕ) → IsInRange (word_kind text)
word_held text = go (position (bytes_eq text) reserved_texts) refl
  where
    go : (found : Option ℕ) → position (bytes_eq text) reserved_texts ≡ found
        → IsInRange (reserved_or_ident found text)
    go None is = tt
    go (Some row) is = omega (arith, table_length, (position-Some (bytes_eq text) reserved_texts row [] is).0)

literal_held : (a size : ℕ) (base : Option ℕ) (digits : List ℕ) → Held (literal a size base digits)
literal_held a size None digits = tt
literal_held a size (Some base) digits =
    let fits = nat_le 1 size && nat_le size 128 && are_digits base digits in
    let value = written base digits % 2 ^ size in
    cond_both fits (Tok (token.Literal size value)) (Fault (fault.BadLiteral a)) Held
    (λ all.
    let (sizes, digits') = and_parts (nat_le 1 size && nat_le size 128) (are_digits base digits) all in
    let (some, most) = and_parts (nat_le 1 size) (nat_le size 128) sizes in
    (leb-true 1 size some, leb-true size 128 most, mod_below (written base digits) (2 ^ size) (pow_pos size)))
    (λ none. tt)

directive_held : (directive : directives.Directive) (bytes : List ℕ) (a n b : ℕ) (kind : Kind)
    → DirectiveIs directive bytes a n b kind → Held kind
directive_held Cell bytes a n b kind (to, is) = subst Held (sym is) tt
directive_held EndCell bytes a n b kind (to, is) = subst Held (sym is) tt
directive_held Timescale bytes a n b kind (line, is) = subst Held (sym is) tt
directive_held DefaultNettype bytes a n b kind (w, blanks, wire, is) =
    subst Held (sym is) (held_if _ Blank (Fault (fault.Directive a)) tt tt)
directive_held Other bytes a n b kind (to, is) = subst Held (sym is) tt

number_held : (quoted : Bool) (bytes : List ℕ) (a n b : ℕ) (kind : Kind) → NumberIs quoted bytes a n b kind
    → Held kind
number_held true bytes a n b kind (run, is) =
    subst Held (sym is) (literal_held a (written 10 (slice_range bytes a n)) (base_of (get_or bytes (n + 1) 0))
    (slice_range bytes (n + 2) b))
number_held false bytes a n b kind (to, is) =
    subst Held (sym is) (held_if _ (Tok (token.Number (written 10 (slice_range bytes a n))))
    (Fault (fault.BadLiteral a)) tt tt)

held : (rule : Case) (bytes : List ℕ) (a b : ℕ) (kind : Kind) → PieceBy rule bytes a b kind → Held kind
held White bytes a b kind (run, is) = subst Held (sym is) tt
held LineComment bytes a b kind (line, is) = subst Held (sym is) tt
held BlockComment bytes a b kind (inl (e, first, to, is)) = subst Held (sym is) tt
held BlockComment bytes a b kind (inr (none, to, is)) = subst Held (sym is) tt
held Attribute bytes a b kind (inl (e, ends, to, is)) = subst Held (sym is) tt
held Attribute bytes a b kind (inr (none, to, is)) = subst Held (sym is) tt
held Directive bytes a b kind (n, run, is) =
    directive_held (directive_of (slice_range bytes (a + 1) n)) bytes a n b kind is
held Escaped bytes a b kind (run, is) =
    let name = Tok (token.Ident (slice_range bytes (a + 1) b)) in
    let short = if nat_lt (a + 1 + 1024) b then Fault (fault.LongName a) else name in
    let fit = if nat_lt b (length bytes) && not (is_white (get_or bytes b 0)) then Fault (fault.BadByte b) else short
    in
    subst Held (sym is) (held_if (nat_eq b (a + 1)) (Fault (fault.BadByte a)) fit tt
    (held_if _ (Fault (fault.BadByte b)) short tt (held_if _ (Fault (fault.LongName a)) name tt tt)))
held Word bytes a b kind (run, is) =
    let text = slice_range bytes a b in
    subst Held (sym is) (held_if (nat_lt (a + 1024) b) (Fault (fault.LongName a)) (Tok (word_kind text)) tt
    (word_held text))
held Number bytes a b kind (n, run, is) = number_held (nat_eq (get_or bytes n 0) apostrophe) bytes a n b kind is
held Apostrophe bytes a b kind (to, is) = subst Held (sym is) tt
held Mark bytes a b kind (to, is) = subst Held (sym is) tt
held Unfit bytes a b kind (to, is) = subst Held (sym is) tt

-- the tokens of a reading, one by one
abbrev InRange : Token → Type 0
InRange token = IsInRange token.kind

tokens_held : (bytes : List ℕ) (a : ℕ) (steps : List Step) (b : ℕ) → Leads bytes a steps b
    → All InRange (tokens_of a steps)
tokens_held bytes a [] b way = λ k d within. absurd (omega arith)
tokens_held bytes a (s ∷ ss) b (piece, sound, way) =
    put (tokens_of s.end ss) s.kind (held (case_of (get_or bytes a 0) (get_or bytes (a + 1) 0)) bytes a s.end s.kind
    piece.1) (tokens_held bytes s.end ss b way)
  where
    put : (tokens : List Token) (kind : Kind) → Held kind → All InRange tokens
        → All InRange (with_token kind a s.end tokens)
    put tokens Blank this all = all
    put tokens (Tok token) this all = All-cons InRange (record { kind = token; at = a; end = s.end }) tokens this all
    put tokens (Fault fault) this all = all

pub lexes_held : (bytes : List ℕ) (tokens : List Token) → Lexes bytes tokens
    → All (λ token. IsInRange token.kind) tokens
unfolding Lexes
lexes_held bytes tokens (steps, way, are) =
    subst (All InRange) (sym are) (tokens_held bytes 0 steps (length bytes) way)

pub in_range : (bytes : List ℕ) (result : Result Tokens LexFault) → IfOk result (λ read. Lexes bytes read.items)
    → IfOk result (λ read. All (λ token. IsInRange token.kind) read.items)
in_range bytes (Ok read) is = lexes_held bytes read.items is
in_range bytes (Err fault) is = tt
