use Rattle.std.proofs.Common.{◌≡◌, ◌++◌}
use Rattle.flatten_rules.specs.Lookup.{bits_from}
use Rattle.vlog_elab.proofs.bits.push_net.Given as goal

abbrev pub invariant-loop-step : goal.invariant-loop-step
invariant-loop-step l = l.bits ≡ l.initial.bits ++ bits_from l.net l.offset l.step
