use Rattle.std.proofs.Common.{◌≡◌, map}
use Rattle.std.specs.List.{range_with_len}
use Rattle.emh_base.specs.declared.plain.Src.TheVariants.{Tie0}
use Rattle.gen_design.proofs.turns.ties.Given as goal

abbrev pub invariant-loop-bit : goal.invariant-loop-bit
invariant-loop-bit l = l.bits ≡ map (λ bit. Tie0) (range_with_len 0 l._bit)
