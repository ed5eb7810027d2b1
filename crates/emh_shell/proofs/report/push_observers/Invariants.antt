use Rattle.std.proofs.Common.{◌≡◌, ◌++◌, drop, map}
use Rattle.emh_shell.specs.Reports.{observer_lines}
use Rattle.emh_shell.proofs.report.push_observers.Given as goal

abbrev pub invariant-loop-i : goal.invariant-loop-i
invariant-loop-i g l =
    l.out ++ observer_lines (drop l.i (map (λ b. (goal.Observer-dyn g (b.vtable, b.value)).called b.value) l.watch)) (drop l.i l.session.enabled)
    ≡ l.initial.out ++ observer_lines (map (λ b. (goal.Observer-dyn g (b.vtable, b.value)).called b.value) l.watch) l.session.enabled
