-- Numbers as they are written.
use Rattle.std.specs.Prelude.{ℕ, ◌+◌, ◌-◌, ◌*◌, Bool, ◌==◌, nat_lt, not, ◌&&◌, ◌||◌, if◌then◌else◌, List, [], ◌∷◌, length, slice_index, Option, Some, None}
use Rattle.std.specs.List.{list_all}
use Rattle.vlog_lex.specs.Byte.{within, is_digit, underscore}

-- what a byte is worth as a digit: 0 to 9, then a to f or A to F for 10 to 15; 16 where it is no digit of any base
abbrev pub digit_of : ℕ → ℕ
digit_of byte =
    if is_digit byte then byte - 48
    else (if within 97 102 byte then byte - 87
    else (if within 65 70 byte then byte - 55
    else 16))

-- the number that digits of a base write after what stands before them; `_` counts for nothing
abbrev pub written_after : ℕ → ℕ → List ℕ → ℕ
written_after base before [] = before
written_after base before (byte ∷ bytes) =
    if byte == underscore then written_after base before bytes
    else written_after base (before * base + digit_of byte) bytes

-- the number that digits of a base write, the leftmost digit first
abbrev pub written : ℕ → List ℕ → ℕ
written base digits = written_after base 0 digits

-- the base that a letter names
abbrev pub base_of : ℕ → Option ℕ
base_of byte =
    if byte == 98 || byte == 66 then Some 2
    else (if byte == 111 || byte == 79 then Some 8
    else (if byte == 100 || byte == 68 then Some 10
    else (if byte == 104 || byte == 72 then Some 16
    else None)))

-- a digit of the base, or `_`
abbrev pub fits_base : ℕ → ℕ → Bool
fits_base base byte = byte == underscore || nat_lt (digit_of byte) base

-- at least one byte, of which the first is no `_`, and each fits the base
abbrev pub are_digits : ℕ → List ℕ → Bool
are_digits base bytes =
    nat_lt 0 (length bytes) && not (slice_index bytes 0 == underscore) && list_all (fits_base base) bytes
