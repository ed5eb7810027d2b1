use Rattle.std.proofs.Common.{◌≡◌, map}
use Rattle.std.specs.List.{range_with_len}
use Rattle.gen_design.specs.Made.{one_inverter}
use Rattle.gen_design.proofs.made.first_module.Given as goal

abbrev pub invariant-loop-k : goal.invariant-loop-k
invariant-loop-k l = l.insts ≡ map (one_inverter l.width) (range_with_len 0 l.k)
