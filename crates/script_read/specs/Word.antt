-- Which words of a line say which values. A word has at least one byte, and no space in it.
use Rattle.std.specs.Prelude.{ℕ, ℤ, pos, ◌-ℤ◌, ◌+◌, ◌-◌, ◌*◌, ◌==◌, Bool, true, false, not, ◌&&◌, nat_le, List, [], ◌∷◌, ◌++◌, length, take, drop, position, slice_index, Option, Some, None, option_map, option_and_then, if◌then◌else◌, codes, bytes_eq}
use Rattle.std.specs.List.{list_all}
use Rattle.emh_base.specs.Name.{is_name_byte}
use Rattle.emh_base.specs.Spelling.{read_back}
use Rattle.emh_base.specs.declared.plain.Range.{Range}
use Rattle.emh_base.specs.declared.plain.Dir.{Dir}
use Rattle.emh_base.specs.declared.plain.Dir.TheVariants.{Input, Output, Inout}
use Rattle.emh_base.specs.declared.placement.Orient.{Orient}
use Rattle.emh_base.specs.declared.placement.Orient.TheVariants.{R0, R90, R180, R270, MX, MY, MXR90, MYR90}
use Rattle.emh_base.specs.declared.placement.Status.{Status}
use Rattle.emh_base.specs.declared.placement.Status.TheVariants.{Placed, Fixed}
use Rattle.emh_base.specs.declared.report.Kind.{Kind}
use Rattle.emh_base.specs.declared.report.Kind.TheVariants as report
use Rattle.script_read.specs.declared.command.BitWord.{BitWord}
use Rattle.script_read.specs.declared.command.BitWord.TheVariants.{Zero, One, Net}

-- names

-- 1 to 1,024 bytes, each 33 to 126
abbrev pub is_name : List ℕ → Bool
is_name bytes = nat_le 1 (length bytes) && nat_le (length bytes) 1024 && list_all is_name_byte bytes

abbrev pub named : List ℕ → Option (List ℕ)
named bytes = if is_name bytes then Some bytes else None

-- the name that a word spells
abbrev pub name_of : List ℕ → Option (List ℕ)
name_of word = option_and_then named (read_back true false word)

-- a word of at most 1,024 bytes, taken as it is; each byte of a word is 33 to 126
abbrev pub file_of : List ℕ → Option (List ℕ)
file_of word = named word

-- numbers

abbrev pub is_digit : ℕ → Bool
is_digit byte = nat_le 48 byte && nat_le byte 57

-- the number that digits write after what stands before them
abbrev pub value_after : ℕ → List ℕ → ℕ
value_after before [] = before
value_after before (digit ∷ digits) = value_after (before * 10 + (digit - 48)) digits

-- the number that decimal digits write
abbrev pub value_of : List ℕ → ℕ
value_of digits = value_after 0 digits

-- 1 to 10 digits
abbrev pub are_digits : List ℕ → Bool
are_digits word = nat_le 1 (length word) && nat_le (length word) 10 && list_all is_digit word

-- the number of 1 to 10 digits, up to a limit
abbrev pub number_within : ℕ → List ℕ → Option ℕ
number_within limit word = if are_digits word && nat_le (value_of word) limit then Some (value_of word) else None

-- a number of 32 bits
abbrev pub number_of : List ℕ → Option ℕ
number_of word = number_within 4294967295 word

-- a number with a minus before it
abbrev pub minus : ℕ → ℤ
minus number = pos 0 -ℤ pos number

-- a number of 32 bits with a sign: digits, or a - and digits
unfoldable pub signed_of : List ℕ → Option ℤ
signed_of [] = None
signed_of (first ∷ digits) =
    if first == 45 then option_map minus (number_within 2147483648 digits)
    else option_map pos (number_within 2147483647 (first ∷ digits))

-- pieces

-- an unmarked byte at which a text is divided, or one that marks the next
abbrev pub is_stop : ℕ → Bool → ℕ → Bool
is_stop stop marked byte = not marked && byte == stop

abbrev pub is_mark : Bool → ℕ → Bool
is_mark marked byte = not marked && byte == 92

-- the pieces of a text between the unmarked bytes `stop`: after a \ or not, and after what stands before in this piece
abbrev pub pieces_after : ℕ → Bool → List ℕ → List ℕ → List (List ℕ)
pieces_after stop marked piece [] = piece ∷ []
pieces_after stop marked piece (byte ∷ rest) =
    if is_stop stop marked byte then piece ∷ pieces_after stop false [] rest
    else pieces_after stop (is_mark marked byte) (piece ++ byte ∷ []) rest

abbrev pub pieces : ℕ → List ℕ → List (List ℕ)
pieces stop text = pieces_after stop false [] text

-- ranges

-- a text whose last byte is a ], without it
abbrev pub before_bracket : List ℕ → Option (List ℕ)
before_bracket text = if slice_index text (length text - 1) == 93 then Some (take (length text - 1) text) else None

abbrev pub range_between : Option ℕ → Option ℕ → Option Range
range_between (Some left) (Some right) = Some (record { left = left; right = right })
range_between (Some left) None = None
range_between None (Some right) = None
range_between None None = None

-- two numbers about the : at this place
abbrev pub range_at : List ℕ → ℕ → Option Range
range_at text at = range_between (number_of (take at text)) (number_of (drop (at + 1) text))

abbrev pub is_colon : ℕ → Bool
is_colon byte = byte == 58

-- U:U
abbrev pub pair_of : List ℕ → Option Range
pair_of text = option_and_then (range_at text) (position is_colon text)

abbrev pub lone : ℕ → Range
lone number = record { left = number; right = number }

-- U:U, or U, which is the range from it to itself
abbrev pub select_at : List ℕ → Option ℕ → Option Range
select_at text None = option_map lone (number_of text)
select_at text (Some at) = range_at text at

abbrev pub select_of : List ℕ → Option Range
select_of text = select_at text (position is_colon text)

-- the piece before a [ and the one behind it
abbrev pub range_in : List (List ℕ) → Option Range
range_in [] = None
range_in (front ∷ []) = None
range_in (front ∷ inside ∷ []) = if bytes_eq front [] then option_and_then pair_of (before_bracket inside) else None
range_in (front ∷ inside ∷ more ∷ others) = None

-- [U:U]
abbrev pub range_of : List ℕ → Option Range
range_of word = range_in (pieces 91 word)

-- sources

abbrev pub net_word : Option (List ℕ) → Option Range → Option BitWord
net_word (Some net) (Some select) = Some (Net net (Some select))
net_word (Some net) None = None
net_word None (Some select) = None
net_word None None = None

abbrev pub bits_in : List (List ℕ) → Option BitWord
bits_in [] = None
bits_in (net ∷ []) = option_map (λ name. Net name None) (name_of net)
bits_in (net ∷ inside ∷ []) = net_word (name_of net) (option_and_then select_of (before_bracket inside))
bits_in (net ∷ inside ∷ more ∷ others) = None

-- =0, =1, NET, NET[U] or NET[U:U]
abbrev pub bit_of : List ℕ → Option BitWord
bit_of word =
    if bytes_eq word (codes "=0") then Some Zero
    else if bytes_eq word (codes "=1") then Some One
    else bits_in (pieces 91 word)

-- paths

abbrev pub with_name : Option (List ℕ) → Option (List (List ℕ)) → Option (List (List ℕ))
with_name None names = None
with_name (Some name) names = option_map (λ others. name ∷ others) names

-- the names that words spell, if each of them spells one
abbrev pub names_of : List (List ℕ) → Option (List (List ℕ))
names_of [] = Some []
names_of (word ∷ words) = with_name (name_of word) (names_of words)

-- instances joined by /; / alone is the empty path
abbrev pub path_of : List ℕ → Option (List (List ℕ))
path_of word = if bytes_eq word (codes "/") then Some [] else names_of (pieces 47 word)

-- words of a list

abbrev pub dir_of : List ℕ → Option Dir
dir_of word =
    if bytes_eq word (codes "input") then Some Input
    else if bytes_eq word (codes "output") then Some Output
    else if bytes_eq word (codes "inout") then Some Inout
    else None

unfoldable pub orient_of : List ℕ → Option Orient
orient_of word =
    if bytes_eq word (codes "R0") then Some R0
    else if bytes_eq word (codes "R90") then Some R90
    else if bytes_eq word (codes "R180") then Some R180
    else if bytes_eq word (codes "R270") then Some R270
    else if bytes_eq word (codes "MX") then Some MX
    else if bytes_eq word (codes "MY") then Some MY
    else if bytes_eq word (codes "MXR90") then Some MXR90
    else if bytes_eq word (codes "MYR90") then Some MYR90
    else None

abbrev pub status_of : List ℕ → Option Status
status_of word =
    if bytes_eq word (codes "Placed") then Some Placed
    else if bytes_eq word (codes "Fixed") then Some Fixed
    else None

-- net bits

abbrev pub indexed : List (List ℕ) → List ℕ → Option ℕ → Option Kind
indexed path net None = None
indexed path net (Some index) = Some (report.Net path net (Some index))

-- NET or NET[U] at a path, from the pieces about its [
abbrev pub net_bit_in : List (List ℕ) → List (List ℕ) → Option Kind
net_bit_in path [] = None
net_bit_in path (net ∷ []) = option_map (λ name. report.Net path name None) (name_of net)
net_bit_in path (net ∷ inside ∷ []) =
    option_and_then (λ name. indexed path name (option_and_then number_of (before_bracket inside))) (name_of net)
net_bit_in path (net ∷ inside ∷ more ∷ others) = None

-- the instances that lead to the net, and the net, from the pieces between the /
abbrev pub net_bit_after : List (List ℕ) → List (List ℕ) → Option Kind
net_bit_after path [] = None
net_bit_after path (last ∷ []) = net_bit_in path (pieces 91 last)
net_bit_after path (word ∷ other ∷ others) =
    option_and_then (λ name. net_bit_after (path ++ name ∷ []) (other ∷ others)) (name_of word)

-- a net bit at a path, which `report net` tells of
abbrev pub net_bit_of : List ℕ → Option Kind
net_bit_of word = net_bit_after [] (pieces 47 word)
