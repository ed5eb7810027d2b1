use Rattle.std.proofs.Common.{◌≡◌, true}
use Rattle.mod_tests.proofs.making.make_all.Given as goal

abbrev pub invariant-loop-ask : goal.invariant-loop-ask
invariant-loop-ask g l = l.mods.table.is_open ≡ true
