-- What stands between the `(*` and the `*)` of an attribute, as parts that follow each other.
use Rattle.std.specs.Prelude.{◌≡◌, ◌≢◌, ◌⊎◌, ℕ, ◌+◌, true, false, List, [], ◌∷◌, slice_index}
use Rattle.vlog_lex.specs.Byte.{quote, backslash, star, right_parenthesis}
use Rattle.vlog_lex.specs.Place.{both_at}

-- parts lead from a to b; the list says where each of them ends
abbrev pub Parts : (ℕ → ℕ → Type 0) → ℕ → List ℕ → ℕ → Type 0
Parts Part a [] b = a ≡ b
Parts Part a (end ∷ ends) b = Part a end × Parts Part end ends b

abbrev pub Through : (ℕ → ℕ → Type 0) → ℕ → ℕ → Type 0
Through Part a b = (ends : List ℕ) × Parts Part a ends b

-- a part of a string: a backslash takes the byte after it with it, and any other byte but a quote stands alone
abbrev pub StringPart : List ℕ → ℕ → ℕ → Type 0
StringPart bytes a b =
    ((slice_index bytes a ≡ backslash) × (b ≡ a + 2))
    ⊎ ((slice_index bytes a ≢ backslash) × (slice_index bytes a ≢ quote) × (b ≡ a + 1))

-- the string whose inside begins at a ends with the quote at e
abbrev pub EndsString : List ℕ → ℕ → ℕ → Type 0
EndsString bytes a e = Through (StringPart bytes) a e × (slice_index bytes e ≡ quote)

-- a part of an attribute: a whole string, or one byte where neither a string nor the end `*)` begins
abbrev pub AttributePart : List ℕ → ℕ → ℕ → Type 0
AttributePart bytes a b =
    ((e : ℕ) × (slice_index bytes a ≡ quote) × EndsString bytes (a + 1) e × (b ≡ e + 1))
    ⊎ ((slice_index bytes a ≢ quote) × (both_at star right_parenthesis bytes a ≡ false) × (b ≡ a + 1))

-- the attribute whose inside begins at a ends with the `*)` at e
abbrev pub EndsAttribute : List ℕ → ℕ → ℕ → Type 0
EndsAttribute bytes a e = Through (AttributePart bytes) a e × (both_at star right_parenthesis bytes e ≡ true)
