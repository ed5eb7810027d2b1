use Rattle.std.proofs.Common.{◌≡◌, drop}
use Rattle.vlog_elab.specs.Interfaces.{same_ports}
use Rattle.vlog_elab.proofs.same.same_ports.Given as goal

abbrev pub invariant-loop-place : goal.invariant-loop-place
invariant-loop-place l = same_ports l.these l.those ≡ same_ports (drop l.place l.these) (drop l.place l.those)
