use Rattle.std.specs.Prelude.{ℕ, ◌+◌, ◌-◌, ◌==◌, Bool, true, false, ◌||◌, nat_lt, List, [], ◌∷◌, ◌++◌, map, Option, Some, None, if◌then◌else◌, codes}
use Rattle.std.specs.List.{flat_map, join_with_byte}
use Rattle.std.specs.Fmt.{decimal}
use Rattle.emh_base.specs.declared.plain.Dir.{Dir}
use Rattle.emh_base.specs.declared.plain.Dir.TheVariants.{Input, Output, Inout}
use Rattle.emh_base.specs.declared.plain.Range.{Range}

-- The texts of names and of what they name. They are this project's own, and each is the text of one object only.

-- a byte that a text puts between names or about an index: / [ ] . and the \ that marks it within a name
abbrev pub is_special : ℕ → Bool
is_special byte = byte == 47 || byte == 91 || byte == 93 || byte == 46 || byte == 92

-- a byte as it stands, or with a \ before it
abbrev pub marked : Bool → ℕ → List ℕ
marked true byte = 92 ∷ byte ∷ []
marked false byte = byte ∷ []

abbrev pub spelled : ℕ → List ℕ
spelled byte = marked (is_special byte) byte

-- a = is marked where it is the first byte, as the texts of ties begin with one
abbrev pub spelled_first : ℕ → List ℕ
spelled_first byte = marked (is_special byte || byte == 61) byte

-- the spelled text of a name
abbrev pub spell : List ℕ → List ℕ
spell [] = []
spell (first ∷ others) = spelled_first first ++ flat_map spelled others

-- a path, by the names of its instances from the top; the empty path is a slash
abbrev pub path_text : List (List ℕ) → List ℕ
path_text [] = codes "/"
path_text (name ∷ names) = join_with_byte 47 (map spell (name ∷ names))

-- what stands before the name of a net at a path: nothing at the top
abbrev pub front_text : List (List ℕ) → List ℕ
front_text names = flat_map (λ name. spell name ++ 47 ∷ []) names

-- the direction of a port
abbrev pub dir_text : Dir → List ℕ
dir_text Input = codes "input"
dir_text Output = codes "output"
dir_text Inout = codes "inout"

-- the index of a bit by its offset from the left
abbrev pub index_of : Range → ℕ → ℕ
index_of range offset = if nat_lt range.right range.left then range.left - offset else range.left + offset

-- the index in brackets, where there is a range
abbrev pub index_text : Option Range → ℕ → List ℕ
index_text None offset = []
index_text (Some range) offset = 91 ∷ decimal (index_of range offset) ++ 93 ∷ []

-- a bit of a net at a path
abbrev pub bit_text : List (List ℕ) → List ℕ → Option Range → ℕ → List ℕ
bit_text names net range offset = front_text names ++ (spell net ++ index_text range offset)

-- a bit of a pin: a port of the leaf at a path
abbrev pub pin_text : List (List ℕ) → List ℕ → Option Range → ℕ → List ℕ
pin_text names port range offset = path_text names ++ (46 ∷ spell port ++ index_text range offset)
