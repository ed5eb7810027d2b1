use Rattle.std.proofs.Common.{◌≡◌, ◌++◌, ◌-◌}
use Rattle.vlog_elab.specs.Table.{literal_bits}
use Rattle.vlog_elab.proofs.bits.push_literal.Given as goal

abbrev pub invariant-loop-done : goal.invariant-loop-done
invariant-loop-done l = l.initial.bits ++ literal_bits l.size l.value ≡ l.bits ++ literal_bits (l.size - l.done) l.value
