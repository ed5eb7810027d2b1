-- Places in bytes, counted from 0. Past the end `slice_index` reads 0, a byte of no class.
use Rattle.std.specs.Prelude.{◌≡◌, ℕ, ◌+◌, ◌<◌, ◌≤◌, Bool, true, false, ◌==◌, nat_le, not, ◌&&◌, ◌||◌, List, length, slice_index}
use Rattle.vlog_lex.specs.Byte.{newline}

-- b is the first place from a on where the test holds
pub record IsFirst (test : ℕ → Bool) (a b : ℕ) : Type 0 where
  pub from : a ≤ b
  pub before : (k : ℕ) → a ≤ k → k < b → test k ≡ false
  pub here : test b ≡ true

-- the test holds at no place from a on
abbrev pub HoldsNowhere : (ℕ → Bool) → ℕ → Type 0
HoldsNowhere test a = (k : ℕ) → a ≤ k → test k ≡ false

-- no byte of the class stands at a place
abbrev pub stops : (ℕ → Bool) → List ℕ → ℕ → Bool
stops class bytes k = not (class (slice_index bytes k))

-- the longest run of bytes of the class from a on ends before b
abbrev pub IsRun : (ℕ → Bool) → List ℕ → ℕ → ℕ → Type 0
IsRun class bytes a b = IsFirst (stops class bytes) a b

-- two bytes stand at a place, one after the other
abbrev pub both_at : ℕ → ℕ → List ℕ → ℕ → Bool
both_at first second bytes k = slice_index bytes k == first && slice_index bytes (k + 1) == second

-- a newline stands at a place, or the bytes end there
abbrev pub ends_line : List ℕ → ℕ → Bool
ends_line bytes k = slice_index bytes k == newline || nat_le (length bytes) k
