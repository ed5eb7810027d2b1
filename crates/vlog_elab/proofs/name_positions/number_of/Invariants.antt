use Rattle.std.proofs.Common.{◌≡◌, take}
use Rattle.vlog_elab.specs.inside.Placed.{number_of}
use Rattle.vlog_elab.proofs.name_positions.number_of.Given as goal

abbrev pub invariant-loop-byte : goal.invariant-loop-byte
invariant-loop-byte l = l.number ≡ number_of (take l.byte-index l.name)
