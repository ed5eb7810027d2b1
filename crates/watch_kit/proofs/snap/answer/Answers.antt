use Rattle.std.proofs.Common.{◌≡◌, ℕ, zero, suc, ◌==◌, ◌<◌, ◌||◌, nat_lt, true, false, arith}
use Rattle.watch_kit.proofs.snap.answer.Goals as goal

positive : (n : ℕ) → ((n == 0) || nat_lt 1000000 n) ≡ false → 0 < n
positive zero e = let never : true ≡ false = e in absurd (cc)
positive (suc n) e = omega arith

pub snap_to-requires : goal.snap_to-requires
snap_to-requires c = positive c.in-Some.grid (c.requires.grid c.in-Some.grid c.in-Some.is)
