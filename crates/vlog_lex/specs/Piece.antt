-- What stands at a place of a netlist: a piece that is passed over, a token, or a fault. This project's own rules for
-- the tokens of IEEE 1364-2005, of which it reads a part.
use Rattle.std.specs.Prelude.{◌≡◌, ◌⊎◌, ℕ, ◌+◌, ◌%◌, ◌^◌, ◌<◌, Bool, true, false, ◌==◌, nat_lt, nat_le, not, ◌&&◌, if◌then◌else◌, List, length, slice_index, slice_range, position, Option, Some, None, codes}
use Rattle.std.specs.Str.{bytes_eq}
use Rattle.word_table.specs.Reserved.{reserved_texts}
use Rattle.vlog_lex.specs.declared.case.Case.{Case}
use Rattle.vlog_lex.specs.declared.case.Case.TheVariants.{White, LineComment, BlockComment, Attribute, Directive, Escaped, Word, Number, Apostrophe, Mark, Unfit}
use Rattle.vlog_lex.specs.declared.case.Directive as directives
use Rattle.vlog_lex.specs.declared.case.Directive.TheVariants.{Cell, EndCell, Timescale, DefaultNettype, Other}
use Rattle.vlog_lex.specs.declared.token.TokenKind.{TokenKind}
use Rattle.vlog_lex.specs.declared.token.TokenKind.TheVariants as token
use Rattle.vlog_lex.specs.declared.token.LexFault.{LexFault}
use Rattle.vlog_lex.specs.declared.token.LexFault.TheVariants as fault
use Rattle.vlog_lex.specs.Byte.{is_blank, is_white, is_digit, begins_word, is_word_byte, is_number_byte, is_literal_byte, is_graphic, apostrophe, left_parenthesis, star, slash, backslash, backtick}
use Rattle.vlog_lex.specs.Place.{IsFirst, HoldsNowhere, IsRun, both_at, ends_line}
use Rattle.vlog_lex.specs.Attribute.{EndsAttribute}
use Rattle.vlog_lex.specs.Number.{written, base_of, are_digits}

-- what a piece is
pub data Kind : Type 0 where
  Blank : Kind
  Tok : TokenKind → Kind
  Fault : LexFault → Kind

-- the rule that applies where two bytes stand: the first of these eleven
abbrev pub case_of : ℕ → ℕ → Case
case_of first second =
    if is_white first then White
    else (if first == slash && second == slash then LineComment
    else (if first == slash && second == star then BlockComment
    else (if first == left_parenthesis && second == star then Attribute
    else (if first == backtick then Directive
    else (if first == backslash then Escaped
    else (if begins_word first then Word
    else (if is_digit first then Number
    else (if first == apostrophe then Apostrophe
    else (if is_graphic first then Mark
    else Unfit)))))))))

-- what a directive's name says
abbrev pub directive_of : List ℕ → directives.Directive
directive_of name =
    if bytes_eq name (codes "celldefine") then Cell
    else (if bytes_eq name (codes "endcelldefine") then EndCell
    else (if bytes_eq name (codes "timescale") then Timescale
    else (if bytes_eq name (codes "default_nettype") then DefaultNettype
    else Other)))

-- the default net type at a, with spaces or tabs from n to w and a word from there to b: only `wire` is accepted
abbrev pub default_nettype : List ℕ → ℕ → ℕ → ℕ → ℕ → Kind
default_nettype bytes a n w b =
    if nat_lt n w && bytes_eq (slice_range bytes w b) (codes "wire") then Blank else Fault (fault.Directive a)

-- the directive at a whose name ends before n is the piece from a to b
abbrev pub DirectiveIs : directives.Directive → List ℕ → ℕ → ℕ → ℕ → Kind → Type 0
DirectiveIs Cell bytes a n b kind = (b ≡ n) × (kind ≡ Tok token.Cell)
DirectiveIs EndCell bytes a n b kind = (b ≡ n) × (kind ≡ Tok token.EndCell)
-- the rest of the line goes with it
DirectiveIs Timescale bytes a n b kind = IsFirst (ends_line bytes) n b × (kind ≡ Blank)
-- and so do the blanks and the word after it
DirectiveIs DefaultNettype bytes a n b kind =
    (w : ℕ) × IsRun is_blank bytes n w × IsRun is_word_byte bytes w b × (kind ≡ default_nettype bytes a n w b)
DirectiveIs Other bytes a n b kind = (b ≡ n) × (kind ≡ Fault (fault.Directive a))

-- the escaped identifier at a whose run of graphic bytes ends before b
abbrev pub escaped : List ℕ → ℕ → ℕ → Kind
escaped bytes a b =
    if b == a + 1 then Fault (fault.BadByte a)
    else (if nat_lt b (length bytes) && not (is_white (slice_index bytes b)) then Fault (fault.BadByte b)
    else (if nat_lt (a + 1 + 1024) b then Fault (fault.LongName a)
    else Tok (token.Ident (slice_range bytes (a + 1) b))))

-- a reserved word by its row, or an identifier
abbrev pub reserved_or_ident : Option ℕ → List ℕ → TokenKind
reserved_or_ident (Some row) text = token.Reserved row
reserved_or_ident None text = token.Ident text

abbrev pub word_kind : List ℕ → TokenKind
word_kind text = reserved_or_ident (position (bytes_eq text) reserved_texts) text

-- the word from a to b
abbrev pub word : List ℕ → ℕ → ℕ → Kind
word bytes a b = if nat_lt (a + 1024) b then Fault (fault.LongName a) else Tok (word_kind (slice_range bytes a b))

-- the literal at a of this size, base and digits
abbrev pub literal : ℕ → ℕ → Option ℕ → List ℕ → Kind
literal a size None digits = Fault (fault.BadLiteral a)
literal a size (Some base) digits =
    if nat_le 1 size && nat_le size 128 && are_digits base digits
    then Tok (token.Literal size (written base digits % 2 ^ size))
    else Fault (fault.BadLiteral a)

-- the number at a
abbrev pub number : ℕ → ℕ → Kind
number a value = if nat_lt value (2 ^ 32) then Tok (token.Number value) else Fault (fault.BadLiteral a)

-- digits from a to n, then a literal where an apostrophe follows, else a number
abbrev pub NumberIs : Bool → List ℕ → ℕ → ℕ → ℕ → Kind → Type 0
NumberIs true bytes a n b kind =
    let size = written 10 (slice_range bytes a n) in
    let base = base_of (slice_index bytes (n + 1)) in
    IsRun is_literal_byte bytes (n + 2) b × (kind ≡ literal a size base (slice_range bytes (n + 2) b))
NumberIs false bytes a n b kind = (b ≡ n) × (kind ≡ number a (written 10 (slice_range bytes a n)))

-- by each rule: from a to b stands a piece of this kind; where a fault ends says nothing
abbrev pub PieceBy : Case → List ℕ → ℕ → ℕ → Kind → Type 0
-- white space is passed over
PieceBy White bytes a b kind = IsRun is_white bytes a b × (kind ≡ Blank)
-- so is a comment up to the end of its line
PieceBy LineComment bytes a b kind = IsFirst (ends_line bytes) (a + 2) b × (kind ≡ Blank)
-- so is a comment up to the first `*/` after its two bytes; without one it is open
PieceBy BlockComment bytes a b kind =
    ((e : ℕ) × IsFirst (both_at star slash bytes) (a + 2) e × (b ≡ e + 2) × (kind ≡ Blank))
    ⊎ (HoldsNowhere (both_at star slash bytes) (a + 2) × (b ≡ a) × (kind ≡ Fault (fault.OpenComment a)))
-- so is an attribute up to its `*)`; without one it is open
PieceBy Attribute bytes a b kind =
    ((e : ℕ) × EndsAttribute bytes (a + 2) e × (b ≡ e + 2) × (kind ≡ Blank))
    ⊎ (((e : ℕ) → EndsAttribute bytes (a + 2) e → ⊥) × (b ≡ a) × (kind ≡ Fault (fault.OpenAttribute a)))
-- a backtick with the longest run of word bytes after it
PieceBy Directive bytes a b kind =
    (n : ℕ) × IsRun is_word_byte bytes (a + 1) n
    × DirectiveIs (directive_of (slice_range bytes (a + 1) n)) bytes a n b kind
-- a backslash with the longest run of graphic bytes after it
PieceBy Escaped bytes a b kind = IsRun is_graphic bytes (a + 1) b × (kind ≡ escaped bytes a b)
-- the longest run of word bytes
PieceBy Word bytes a b kind = IsRun is_word_byte bytes a b × (kind ≡ word bytes a b)
-- the longest run of digits and `_`, and what an apostrophe after it adds
PieceBy Number bytes a b kind =
    (n : ℕ) × IsRun is_number_byte bytes a n × NumberIs (slice_index bytes n == apostrophe) bytes a n b kind
PieceBy Apostrophe bytes a b kind = (b ≡ a) × (kind ≡ Fault (fault.BadLiteral a))
PieceBy Mark bytes a b kind = (b ≡ a + 1) × (kind ≡ Tok (token.Mark (slice_index bytes a)))
PieceBy Unfit bytes a b kind = (b ≡ a) × (kind ≡ Fault (fault.BadByte a))

-- from a to b stands a piece of this kind, by the first rule that applies at a
abbrev pub Piece : List ℕ → ℕ → ℕ → Kind → Type 0
Piece bytes a b kind =
    (a < length bytes) × PieceBy (case_of (slice_index bytes a) (slice_index bytes (a + 1))) bytes a b kind
