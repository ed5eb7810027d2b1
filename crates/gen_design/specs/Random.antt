-- Random numbers, each drawn from the one before. The multiplier and the increment are Knuth's, of
-- MMIX; that a draw is the upper 31 bits of 64 is this project's own.
use Rattle.std.specs.Prelude.{ℕ, zero, suc, ◌+◌, ◌*◌, ◌/◌, ◌%◌, ◌^◌}

-- the number after a draw
abbrev pub drawn : ℕ → ℕ
drawn x = (x * 6364136223846793005 + 1442695040888963407) % 2 ^ 64

-- and after so many
abbrev pub after_draws : ℕ → ℕ → ℕ
after_draws x zero = x
after_draws x (suc n) = drawn (after_draws x n)

-- what a draw gives that led to a number
abbrev pub given : ℕ → ℕ
given x = x / 2 ^ 33

-- what the n-th draw gives, counted from 1
abbrev pub draw : ℕ → ℕ → ℕ
draw x n = given (after_draws x n)
