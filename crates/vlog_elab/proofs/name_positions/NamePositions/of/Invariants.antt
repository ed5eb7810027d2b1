use Rattle.std.proofs.Common.{take}
use Rattle.vlog_elab.specs.inside.Agree.{FindsEach}
use Rattle.vlog_elab.proofs.name_positions.NamePositions.of.Given as goal

abbrev pub invariant-loop-place : goal.invariant-loop-place
invariant-loop-place g l = FindsEach l.places.slots.items l.places.by_name (take l.place l.entries)
