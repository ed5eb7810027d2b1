use Rattle.std.proofs.Common.{◌-◌, map}
use Rattle.desk.specs.Desk.{room_of}
use Rattle.emh_session.proofs.ToldAll.{ToldEntries}
use Rattle.emh_session.proofs.telling.tell_all.Given as goal

abbrev pub invariant-loop-entry : goal.invariant-loop-entry
invariant-loop-entry g l =
    ToldEntries (map (λ b. (goal.Observer-dyn g (b.vtable, b.value)).wants b.value) l.watch) l.enabled l.entry l.fn.desk l.desk

abbrev pub decreases-loop-entry : goal.decreases-loop-entry
decreases-loop-entry g l = room_of l.fn.desk - l.entry
