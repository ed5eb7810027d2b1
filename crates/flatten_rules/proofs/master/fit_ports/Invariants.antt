-- The connections so far fit their ports.
use Rattle.std.proofs.Common.{length}
use Rattle.flatten_rules.proofs.Checking.{FitEach}
use Rattle.flatten_rules.proofs.master.fit_ports.Given as goal

abbrev pub invariant-loop-port : goal.invariant-loop-port
invariant-loop-port l = FitEach l.holder l.master l.master.ports l.conns (length l.yielded)
