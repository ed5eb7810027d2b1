use Rattle.std.proofs.Common.{◌≡◌, map}
use Rattle.std.specs.List.{range_with_len}
use Rattle.emh_base.specs.declared.plain.Src.TheVariants.{Bit}
use Rattle.gen_design.proofs.made.whole.Given as goal

abbrev pub invariant-loop-offset : goal.invariant-loop-offset
invariant-loop-offset l = l.bits ≡ map (λ offset. Bit (record { 0 = l.id }) offset) (range_with_len 0 l.offset)
