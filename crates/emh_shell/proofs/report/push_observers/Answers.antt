use Rattle.std.proofs.Common.{refl, arith, map, length, ◌≤◌}
use Rattle.std.proofs.lemmas.List.{length-map}
use Rattle.emh_session.proofs.Growing.{map_here}
use Rattle.emh_shell.proofs.Observing.{mark-here, lines-more, lines-all}
use Rattle.emh_shell.proofs.report.push_observers.Goals as goal

pub loop-i-init : goal.loop-i-init
loop-i-init g c = refl

pub loop-i-preserved : goal.loop-i-preserved
loop-i-preserved g c =
    let here = map_here (λ b. (goal.Observer-dyn g (b.vtable, b.value)).called b.value) c.args.watch.now c.loop-i.i c.index-watch-i.result c.loop-i-test.true c.index-watch-i.is in
    lines-more _ c.args.session.now.enabled c.loop-i.i _ c.is_enabled.result c.loop-i.out c.push_observer.new.out _ here
    (mark-here c.args.session.now.enabled c.loop-i.i c.is_enabled.result c.is_enabled.ensures) c.in_ok-push_observer.ensures c.loop-i.invariant

pub returns : goal.returns
returns g c =
    let names = map (λ b. (goal.Observer-dyn g (b.vtable, b.value)).called b.value) c.args.watch.now in
    let past : length names ≤ c.loop-i.i = omega (arith, length-map c.args.watch.now (λ b. (goal.Observer-dyn g (b.vtable, b.value)).called b.value)) in
    lines-all names c.args.session.now.enabled c.loop-i.i c.loop-i.out _ past c.loop-i.invariant
