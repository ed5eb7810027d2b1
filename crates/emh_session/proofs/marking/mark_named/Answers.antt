use Rattle.std.proofs.Common.{◌<◌, ◌≤◌, map, length, sym, ◌∙◌, arith}
use Rattle.std.proofs.lemmas.List.{length-map}
use Rattle.emh_session.proofs.Growing.{map_here}
use Rattle.emh_session.proofs.Marks.{marked-none, marked-named, marked-other, marked-all}
use Rattle.emh_session.proofs.marking.mark_named.Goals.{then-is_named, else-is_named}
use Rattle.emh_session.proofs.marking.mark_named.Goals as goal

pub loop-i-init : goal.loop-i-init
loop-i-init g c = marked-none _ c.args.on _ c.args.enabled.now

pub loop-i-preserved : goal.loop-i-preserved
loop-i-preserved g c =
    let here = map_here (λ b. (goal.Observer-dyn g (b.vtable, b.value)).called b.value) c.args.watch.now c.loop-i.i c.index-watch-i.result c.loop-i-test.true c.index-watch-i.is in
    let less : c.loop-i.i < length c.loop-i.enabled = omega (arith, c.loop-i.invariant.all) in
    elim c.if-is_named.branch [
      | then-is_named w ↦
          marked-named _ c.args.on _ c.args.enabled.now c.loop-i.i c.loop-i.found c.loop-i.enabled _ c.loop-i.invariant here less
          c.if-is_named.enabled c.if-is_named.found (sym c.is_named.ensures ∙ w.if-is_named.true) w.enabled-is w.found-is
      | else-is_named w ↦
          marked-other _ c.args.on _ c.args.enabled.now c.loop-i.i c.loop-i.found c.loop-i.enabled _ c.loop-i.invariant here less
          c.if-is_named.enabled c.if-is_named.found (sym c.is_named.ensures ∙ w.if-is_named.false) w.enabled-is w.found-is
    ]

pub returns : goal.returns
returns g c =
    let names = map (λ b. (goal.Observer-dyn g (b.vtable, b.value)).called b.value) c.args.watch.now in
    let past : length names ≤ c.loop-i.i = omega (arith, length-map c.args.watch.now (λ b. (goal.Observer-dyn g (b.vtable, b.value)).called b.value)) in
    let over : length c.loop-i.enabled ≤ c.loop-i.i = omega (arith, c.loop-i.invariant.all) in
    let all = marked-all _ c.args.on names c.args.enabled.now c.loop-i.i c.loop-i.found c.loop-i.enabled c.loop-i.invariant past over in
    record { found = all.0; marks = all.1 }
