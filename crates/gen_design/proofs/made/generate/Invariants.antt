-- So many modules stand there, and each later one has drawn three numbers.
use Rattle.std.proofs.Common.{◌≡◌, ◌*◌, ◌-◌, ◌∷◌, map}
use Rattle.std.specs.List.{range_with_len}
use Rattle.gen_design.specs.Random.{after_draws}
use Rattle.gen_design.specs.Made.{inverter, made_module}
use Rattle.gen_design.proofs.made.generate.Given as goal

abbrev pub invariant-loop-j : goal.invariant-loop-j
invariant-loop-j l = record {
  random : l.random ≡ after_draws l.number (3 * (l.j - 1));
  modules : l.made ≡ inverter ∷ map (made_module l.number l.width) (range_with_len 0 l.j);
}
