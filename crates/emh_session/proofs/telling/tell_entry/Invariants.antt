use Rattle.std.proofs.Common.{map}
use Rattle.emh_session.proofs.Told.{ToldBelow}
use Rattle.emh_session.proofs.telling.tell_entry.Given as goal

abbrev pub invariant-loop-i : goal.invariant-loop-i
invariant-loop-i g l =
    ToldBelow (map (λ b. (goal.Observer-dyn g (b.vtable, b.value)).wants b.value) l.watch) l.enabled l.entry l.i l.fn.desk l.desk
