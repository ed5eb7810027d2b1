use Rattle.std.proofs.Common.{◌≡◌, false}
use Rattle.mod_tests.proofs.records.plays.Given as goal

abbrev pub invariant-loop-taken : goal.invariant-loop-taken
invariant-loop-taken g l = l.mods.table.is_open ≡ false
