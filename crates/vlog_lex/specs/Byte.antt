-- The bytes of a netlist, by class. This project's own, over ASCII.
use Rattle.std.specs.Prelude.{ℕ, Bool, ◌==◌, nat_le, ◌&&◌, ◌||◌}

-- the bytes that begin or end a piece, by name
abbrev pub newline : ℕ
newline = 10

abbrev pub quote : ℕ
quote = 34

abbrev pub apostrophe : ℕ
apostrophe = 39

abbrev pub left_parenthesis : ℕ
left_parenthesis = 40

abbrev pub right_parenthesis : ℕ
right_parenthesis = 41

abbrev pub star : ℕ
star = 42

abbrev pub slash : ℕ
slash = 47

abbrev pub backslash : ℕ
backslash = 92

abbrev pub underscore : ℕ
underscore = 95

abbrev pub backtick : ℕ
backtick = 96

-- from one byte to another
abbrev pub within : ℕ → ℕ → ℕ → Bool
within low high byte = nat_le low byte && nat_le byte high

-- space or tab
abbrev pub is_blank : ℕ → Bool
is_blank byte = byte == 32 || byte == 9

-- space, tab, newline, form feed or carriage return
abbrev pub is_white : ℕ → Bool
is_white byte = is_blank byte || byte == newline || byte == 12 || byte == 13

-- 0 to 9
abbrev pub is_digit : ℕ → Bool
is_digit byte = within 48 57 byte

-- A to Z or a to z
abbrev pub is_letter : ℕ → Bool
is_letter byte = within 65 90 byte || within 97 122 byte

-- what a word begins with: a letter or `_`
abbrev pub begins_word : ℕ → Bool
begins_word byte = is_letter byte || byte == underscore

-- what a word is made of: letters, digits, `_` and `$`
abbrev pub is_word_byte : ℕ → Bool
is_word_byte byte = begins_word byte || is_digit byte || byte == 36

-- what a number is made of: digits and `_`
abbrev pub is_number_byte : ℕ → Bool
is_number_byte byte = is_digit byte || byte == underscore

-- what the digits of a literal are made of, right or wrong: letters, digits, `_` and `?`
abbrev pub is_literal_byte : ℕ → Bool
is_literal_byte byte = begins_word byte || is_digit byte || byte == 63

-- printable and no space
abbrev pub is_graphic : ℕ → Bool
is_graphic byte = within 33 126 byte
