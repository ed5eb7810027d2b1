use Rattle.std.proofs.Common.{◌≡◌, map, take}
use Rattle.std.specs.List.{zip}
use Rattle.watch_kit.specs.Sinks.{join}
use Rattle.watch_kit.specs.inside.Moving.{moved_on}
use Rattle.watch_kit.proofs.mover.Mover.move_ports.Given as goal

abbrev pub invariant-loop-at : goal.invariant-loop-at
invariant-loop-at l = l.self ≡ moved_on l.initial.self (map (join l.inst) (take l.at (zip l.ports l.conns)))
