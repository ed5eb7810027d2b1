-- Names with numbers: a list of distinct names, each numbered by its place.
use Rattle.std.specs.Prelude.{ℕ, List, [], ◌∷◌, ◌++◌, if◌then◌else◌, bytes_eq}
use Rattle.std.specs.List.{list_any, position_or_len}

-- the number that a name has, or gets as a new one: its place, or the length
abbrev pub number_in : List (List ℕ) → List ℕ → ℕ
number_in names name = position_or_len (bytes_eq name) names

-- the names with this one: it goes last where it isn't there
abbrev pub with_name : List (List ℕ) → List ℕ → List (List ℕ)
with_name names name = if list_any (bytes_eq name) names then names else names ++ name ∷ []
