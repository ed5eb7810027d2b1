use Rattle.std.proofs.Common.{map}
use Rattle.emh_session.proofs.Marks.{Marked}
use Rattle.emh_session.proofs.marking.mark_named.Given as goal

abbrev pub invariant-loop-i : goal.invariant-loop-i
invariant-loop-i g l =
    Marked l.name l.on (map (λ b. (goal.Observer-dyn g (b.vtable, b.value)).called b.value) l.watch) l.fn.enabled l.i l.found l.enabled
