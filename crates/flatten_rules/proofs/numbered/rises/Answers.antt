use Rattle.std.proofs.Common.{◌≤◌, ◌<◌, ◌∙◌, ap, get_or, arith}
use Rattle.std.proofs.lemmas.Bool.{leb-true, le-leb, false≢true}
use Rattle.flatten_rules.proofs.Rising.{rises-more, rises-not, rises-all}
use Rattle.flatten_rules.proofs.numbered.rises.Goals as goal

pub returns-then-from-next-clause-rises : goal.returns-then-from-next-clause-rises
returns-then-from-next-clause-rises g c =
    let number = g.T.Numbered.number_of in
    let items = c.args.items.now in
    let i = c.loop-item.item-index in
    let item = c.item-item.result in
    let low : number (get_or items i item) < c.loop-item.next = omega (arith, c.from.ensures, c.number.ensures, ap number c.item-item.is) in
    (λ yes. absurd (false≢true yes), λ sound. absurd (rises-not number items i item c.loop-item.next c.loop-item-test.true low c.loop-item.invariant sound.0))

pub loop-item-preserved : goal.loop-item-preserved
loop-item-preserved g c =
    let number = g.T.Numbered.number_of in
    let items = c.args.items.now in
    let i = c.loop-item.item-index in
    let item = c.item-item.result in
    let at = ap number c.item-item.is in
    let high : c.loop-item.next ≤ number (get_or items i item) = omega (arith, c.from.ensures, c.number.ensures, at) in
    rw (c.from-next.ensures ∙ c.number-in-loop-item.ensures ∙ at) (rises-more number items i item c.loop-item.next c.loop-item-test.true high c.loop-item.invariant)

pub returns-clause-rises : goal.returns-clause-rises
returns-clause-rises g c =
    let all = rises-all g.T.Numbered.number_of c.args.items.now c.loop-item.item-index c.loop-item.next c.args.counter c.loop-item-test.false c.loop-item.invariant in (
      λ yes. all.0 (omega (arith, leb-true c.loop-item.next c.from-2.result yes, c.from-2.ensures)),
      λ sound. le-leb c.loop-item.next c.from-2.result (omega (arith, all.1 sound, c.from-2.ensures)),
    )
