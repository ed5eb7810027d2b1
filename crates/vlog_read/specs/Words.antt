-- The reserved words and the marks that the grammar uses. A reserved word is told by its row in the table of them.
use Rattle.std.specs.Prelude.{◌≡◌, ℕ, Bool, ◌==◌, ◌||◌, slice_get, Some, codes}
use Rattle.emh_base.specs.declared.plain.Dir.{Dir}
use Rattle.emh_base.specs.declared.plain.Dir.TheVariants.{Input, Output, Inout}
use Rattle.word_table.specs.Reserved.{reserved_texts}

abbrev pub endmodule_word : ℕ
endmodule_word = 26

abbrev pub inout_word : ℕ
inout_word = 46

abbrev pub input_word : ℕ
input_word = 47

abbrev pub module_word : ℕ
module_word = 57

abbrev pub output_word : ℕ
output_word = 67

abbrev pub wire_word : ℕ
wire_word = 120

-- the word of a direction
abbrev pub dir_word : Dir → ℕ
dir_word Input = input_word
dir_word Output = output_word
dir_word Inout = inout_word

-- the six words
abbrev pub is_used_word : ℕ → Bool
is_used_word row =
    row == endmodule_word || row == inout_word || row == input_word || row == module_word || row == output_word
    || row == wire_word

-- these rows of the table hold these words
pub record RowsHoldTheWords : Type 0 where
  pub endmodule_row : slice_get reserved_texts endmodule_word ≡ Some (codes "endmodule")
  pub inout_row : slice_get reserved_texts inout_word ≡ Some (codes "inout")
  pub input_row : slice_get reserved_texts input_word ≡ Some (codes "input")
  pub module_row : slice_get reserved_texts module_word ≡ Some (codes "module")
  pub output_row : slice_get reserved_texts output_word ≡ Some (codes "output")
  pub wire_row : slice_get reserved_texts wire_word ≡ Some (codes "wire")

abbrev pub left_parenthesis : ℕ
left_parenthesis = 40

abbrev pub right_parenthesis : ℕ
right_parenthesis = 41

abbrev pub comma : ℕ
comma = 44

abbrev pub dot : ℕ
dot = 46

abbrev pub colon : ℕ
colon = 58

abbrev pub semicolon : ℕ
semicolon = 59

abbrev pub left_bracket : ℕ
left_bracket = 91

abbrev pub right_bracket : ℕ
right_bracket = 93

abbrev pub left_brace : ℕ
left_brace = 123

abbrev pub right_brace : ℕ
right_brace = 125

-- the marks that begin a part of the language that isn't read, where they stand in a place of their own: # = . [ {
abbrev pub is_unread_mark : ℕ → Bool
is_unread_mark byte = byte == 35 || byte == 61 || byte == dot || byte == left_bracket || byte == left_brace
