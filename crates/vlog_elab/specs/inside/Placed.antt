use Rattle.vlog_elab.specs.declared.name_positions.TheConstants.{FACTOR, EMPTY}
use Rattle.std.specs.Prelude.{ℕ, List, Option, None, Some, ◌+◌, ◌*◌, ◌/◌, ◌%◌, ◌^◌, if◌then◌else◌, nat_eq, get_or}
use Rattle.std.specs.List.{fold}

-- the number of a name: each byte is added, and the sum is multiplied, modulo 2 ^ 64
abbrev pub number_of : List ℕ → ℕ
number_of name = fold (λ number byte. (number + byte) % 2 ^ 64 * FACTOR % 2 ^ 64) 0 name

-- the first slot of a name, where there are so many and one more: it stands among them where the number stands among all numbers
abbrev pub slot_of : ℕ → List ℕ → ℕ
slot_of count name = number_of name * count / 2 ^ 64

-- the place in a slot, or none where the slot is empty
abbrev pub place_at : List ℕ → ℕ → Option ℕ
place_at slots slot = if nat_eq (get_or slots slot EMPTY) EMPTY then None else Some (get_or slots slot EMPTY)
