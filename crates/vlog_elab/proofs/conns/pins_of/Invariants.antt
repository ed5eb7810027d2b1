use Rattle.std.proofs.Common.{◌≡◌, take}
use Rattle.vlog_elab.specs.inside.Pins.{pins_from}
use Rattle.vlog_elab.proofs.conns.pins_of.Given as goal

abbrev pub invariant-loop-place : goal.invariant-loop-place
invariant-loop-place l = l.pins ≡ pins_from 0 (take l.place l.conns)
