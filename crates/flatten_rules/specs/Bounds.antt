-- The three limits as numbers, each of which stands here alone. This project's own.
use Rattle.std.specs.Prelude.{ℕ}

-- the most instances that a walk down from a module may have
abbrev pub depth_limit : ℕ
depth_limit = 256

-- the most occurrences that a top may unfold to, itself among them
abbrev pub occurrence_limit : ℕ
occurrence_limit = 1000000

-- the most net bits that these may have together
abbrev pub bit_limit : ℕ
bit_limit = 4000000
