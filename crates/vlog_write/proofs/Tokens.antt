-- The tokens of written words, and which words are read again as they were written.
use Rattle.std.specs.Prelude.{ℕ, ◌<◌, ◌^◌, Bool, true, false, ◌==◌, ◌||◌, List, [], ◌∷◌, IsTrue}
use Rattle.std.specs.List.{flat_map}
use Rattle.emh_base.specs.Name.{IsName}
use Rattle.vlog_lex.specs.declared.token.TokenKind.{TokenKind}
use Rattle.vlog_lex.specs.declared.token.TokenKind.TheVariants as token
use Rattle.vlog_read.specs.Words.{is_used_word}
use Rattle.vlog_write.specs.Word.{Word, Name, Reserved, Mark, Number, Tie, Cell, EndCell, Space, Newline}

abbrev pub tie_value : Bool → ℕ
tie_value false = 0
tie_value true = 1

-- the token that a word is; white space is none
abbrev pub word_kinds : Word → List TokenKind
word_kinds (Name name) = token.Ident name ∷ []
word_kinds (Reserved row) = token.Reserved row ∷ []
word_kinds (Mark byte) = token.Mark byte ∷ []
word_kinds (Number value) = token.Number value ∷ []
word_kinds (Tie bit) = token.Literal 1 (tie_value bit) ∷ []
word_kinds Cell = token.Cell ∷ []
word_kinds EndCell = token.EndCell ∷ []
word_kinds Space = []
word_kinds Newline = []

abbrev pub kinds : List Word → List TokenKind
kinds words = flat_map word_kinds words

-- the marks: ( ) , . : ; [ ] { }
abbrev pub is_written_mark : ℕ → Bool
is_written_mark byte =
    byte == 40 || byte == 41 || byte == 44 || byte == 46 || byte == 58 || byte == 59 || byte == 91
    || byte == 93 || byte == 123 || byte == 125

-- what a word has to be, to be read as it is
abbrev pub IsSoundWord : Word → Type 0
IsSoundWord (Name name) = IsName name
IsSoundWord (Reserved row) = IsTrue (is_used_word row)
IsSoundWord (Mark byte) = IsTrue (is_written_mark byte)
IsSoundWord (Number value) = value < 2 ^ 32
IsSoundWord (Tie bit) = Unit {0}
IsSoundWord Cell = Unit {0}
IsSoundWord EndCell = Unit {0}
IsSoundWord Space = Unit {0}
IsSoundWord Newline = Unit {0}

-- a mark or white space, next to which any word may stand
abbrev pub is_divider : Word → Bool
is_divider (Name name) = false
is_divider (Reserved row) = false
is_divider (Mark byte) = true
is_divider (Number value) = false
is_divider (Tie bit) = false
is_divider Cell = false
is_divider EndCell = false
is_divider Space = true
is_divider Newline = true

-- nothing, or a mark or white space first
abbrev pub begins_apart : List Word → Bool
begins_apart [] = true
begins_apart (word ∷ words) = is_divider word

-- each word is sound, and of two neighbours at least one is a mark or white space
abbrev pub AreApart : List Word → Type 0
AreApart [] = Unit {0}
AreApart (word ∷ words) =
    IsSoundWord word × IsTrue (is_divider word || begins_apart words) × AreApart words
