use Rattle.std.proofs.Common.{◌≡◌, false}
use Rattle.mod_tests.proofs.records.makes.Given as goal

abbrev pub invariant-loop-place : goal.invariant-loop-place
invariant-loop-place g l = l.mods.table.is_open ≡ false
