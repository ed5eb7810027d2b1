use Rattle.std.proofs.Common.{arith, ◌≡◌, Some, length, take, true, false, refl, sym, ◌∙◌, ap, slice_get}
use Rattle.vlog_elab.specs.Interfaces.{added}
use Rattle.vlog_elab.proofs.Adding.{count-again, count-new}
use Rattle.vlog_elab.proofs.elaborate.recursive.Goals as goal

pub loop-m-preserved-then-not-is_next : goal.loop-m-preserved-then-not-is_next
loop-m-preserved-then-not-is_next c = record {
  counted =
      count-again c.args.table.now c.requires.known.0 c.args.modules.now c.args.masters.now c.loop-m.m-index c.m-item.result c.loop-m.next
      (omega arith) c.m-item.is c.requires.known.1 c.loop-m.invariant.counted (λ at. let no : false ≡ true = c.if-not-is_next.ensures.1 at in absurd (cc no));
  before = c.loop-m.invariant.before;
}

pub returns-then-next-place : goal.returns-then-next-place
returns-then-next-place c = λ k m place at.
    let next : slice_get (added c.args.table.now c.args.modules.now) (length (added c.args.table.now (take c.loop-m.m-index c.args.modules.now))) ≡ Some c.m-item.result
    = (count-new c.args.table.now c.requires.known.0 c.args.modules.now c.args.masters.now c.loop-m.m-index c.m-item.result c.loop-m.next
    (omega arith) c.m-item.is c.requires.known.1 c.loop-m.invariant.counted (c.if-not-is_next.ensures.0 refl)).1 in
    let here : length (added c.args.table.now (take c.loop-m.m-index c.args.modules.now)) ≡ k = omega (arith, c.loop-m.invariant.counted, c.if-next-place.true, place) in
    let found : Some c.m-item.result ≡ Some m = sym next ∙ ap (slice_get (added c.args.table.now c.args.modules.now)) here ∙ at in
    let same : m ≡ c.m-item.result = cc in
    rw same c.fault.ensures

pub loop-m-preserved : goal.loop-m-preserved
loop-m-preserved c = record {
  counted =
      (count-new c.args.table.now c.requires.known.0 c.args.modules.now c.args.masters.now c.loop-m.m-index c.m-item.result c.loop-m.next
      (omega arith) c.m-item.is c.requires.known.1 c.loop-m.invariant.counted (c.if-not-is_next.ensures.0 refl)).0;
  before = omega (arith, c.loop-m.invariant.before, c.if-next-place.false);
}
