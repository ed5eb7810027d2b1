-- The words that a netlist is written of, with the white space between them, and the text of each. Names are those of
-- IEEE 1364-2005, 3.7.
use Rattle.std.specs.Prelude.{ℕ, Bool, true, false, not, ◌&&◌, if◌then◌else◌, List, [], ◌∷◌, ◌++◌, slice_index, slice_index_or, position, is_some, codes, bytes_eq}
use Rattle.std.specs.List.{list_all, flat_map}
use Rattle.std.specs.Fmt.{decimal}
use Rattle.word_table.specs.Reserved.{reserved_texts}
use Rattle.vlog_lex.specs.Byte.{begins_word, is_word_byte}

-- a word of a file, or a piece of white space; a reserved word is told by its row in the table of them, a mark by its byte
pub data Word : Type 0 where
  Name : List ℕ → Word
  Reserved : ℕ → Word
  Mark : ℕ → Word
  Number : ℕ → Word
  Tie : Bool → Word
  Cell : Word
  EndCell : Word
  Space : Word
  Newline : Word

abbrev pub is_reserved : List ℕ → Bool
is_reserved name = is_some (position (bytes_eq name) reserved_texts)

-- a simple identifier that is no reserved word
abbrev pub is_simple : List ℕ → Bool
is_simple name =
    begins_word (slice_index name 0) && list_all is_word_byte name && not (is_reserved name)

-- such a name stands as it is, any other between a backslash and a space
abbrev pub name_text : List ℕ → List ℕ
name_text name = if is_simple name then name else 92 ∷ name ++ 32 ∷ []

abbrev pub tie_text : Bool → List ℕ
tie_text false = codes "1'b0"
tie_text true = codes "1'b1"

abbrev pub word_text : Word → List ℕ
word_text (Name name) = name_text name
word_text (Reserved row) = slice_index_or reserved_texts row []
word_text (Mark byte) = byte ∷ []
word_text (Number value) = decimal value
word_text (Tie bit) = tie_text bit
word_text Cell = codes "`celldefine"
word_text EndCell = codes "`endcelldefine"
word_text Space = codes " "
word_text Newline = codes "\n"

-- the text of words, one after the other
abbrev pub text : List Word → List ℕ
text words = flat_map word_text words
