use Rattle.std.proofs.Common.{◌≡◌, false}
use Rattle.mod_tests.proofs.records.undoes.Given as goal

abbrev pub invariant-loop-undone : goal.invariant-loop-undone
invariant-loop-undone g l = l.mods.table.is_open ≡ false
