use Rattle.std.proofs.Common.{◌≡◌, take}
use Rattle.vlog_elab.specs.Table.{conns_of}
use Rattle.vlog_elab.proofs.conns.conns_of.Given as goal

abbrev pub invariant-loop-place : goal.invariant-loop-place
invariant-loop-place l = l.made ≡ conns_of l.nets (take l.place l.ports) l.conns
