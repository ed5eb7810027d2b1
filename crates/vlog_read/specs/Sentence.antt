-- What tokens say: the tree that they spell, or the first of them that no sentence has there.
use Rattle.std.specs.Prelude.{◌≡◌, ◌⊎◌, ℕ, false, if◌then◌else◌, List, [], ◌∷◌, ◌++◌, slice_get, Option, Some, None}
use Rattle.word_table.specs.Reserved.{reserved_texts}
use Rattle.vlog_lex.specs.declared.token.Token.{Token}
use Rattle.vlog_lex.specs.declared.token.TokenKind.{TokenKind}
use Rattle.vlog_lex.specs.declared.token.TokenKind.TheVariants.{Ident, Reserved, Cell, EndCell, Number, Literal, Mark}
use Rattle.vlog_read.specs.declared.tree.Tree.{Tree}
use Rattle.vlog_read.specs.declared.fault.ParseFault.{ParseFault}
use Rattle.vlog_read.specs.declared.fault.ParseFault.TheVariants.{Unexpected, Unsupported}
use Rattle.vlog_read.specs.Words.{is_used_word, is_unread_mark}
use Rattle.vlog_read.specs.Grammar.{Source}

-- the tokens spell this tree
abbrev pub Spells : Tree → List Token → Type 0
Spells tree T = Source false tree.modules T

-- the tokens begin a sentence: with more of them they spell a tree
abbrev pub Begins : List Token → Type 0
Begins T = (more : List Token) × (tree : Tree) × Spells tree (T ++ more)

-- the tokens before t begin a sentence, and with t they begin none
abbrev pub StopsAt : List Token → Token → Type 0
StopsAt T t =
    (before : List Token) × (after : List Token) × (T ≡ before ++ t ∷ after) × Begins before
    × (Begins (before ++ t ∷ []) → ⊥)

-- all tokens begin a sentence, and are none
abbrev pub StopsEarly : List Token → Type 0
StopsEarly T = Begins T × ((tree : Tree) → Spells tree T → ⊥)

-- a reserved word that the grammar doesn't use is told by its text; a row past the table holds none
abbrev pub unused_word : ℕ → Option (List ℕ) → ParseFault
unused_word at (Some word) = Unsupported at word
unused_word at None = Unexpected at

-- the fault where a sentence stops at a token: a reserved word that the grammar doesn't use and one of the marks
-- # = . [ { are told by their text
abbrev pub fault_of : TokenKind → ℕ → ParseFault
fault_of (Ident name) at = Unexpected at
fault_of (Reserved row) at =
    if is_used_word row then Unexpected at else unused_word at (slice_get reserved_texts row)
fault_of Cell at = Unexpected at
fault_of EndCell at = Unexpected at
fault_of (Number value) at = Unexpected at
fault_of (Literal size value) at = Unexpected at
fault_of (Mark byte) at = if is_unread_mark byte then Unsupported at (byte ∷ []) else Unexpected at

abbrev pub fault_at : Token → ParseFault
fault_at t = fault_of t.kind t.at

-- the fault of the tokens of `len` bytes: at the first token with which no sentence begins, or at the end
abbrev pub HasFault : ℕ → List Token → ParseFault → Type 0
HasFault len T fault = ((t : Token) × StopsAt T t × (fault ≡ fault_at t)) ⊎ (StopsEarly T × (fault ≡ Unexpected len))
