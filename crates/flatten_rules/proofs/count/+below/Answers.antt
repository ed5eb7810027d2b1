use Rattle.std.proofs.Common.{◌-◌, min, sum_by, sym, ap, ◌∙◌}
use Rattle.std.proofs.lemmas.List.{take_all}
use Rattle.emh_base.specs.declared.plain.PInst.{PInst}
use Rattle.flatten_rules.specs.Counting.{total}
use Rattle.flatten_rules.specs.inside.Levels.{weight_in, counted}
use Rattle.flatten_rules.proofs.Counting.{counted-nowhere, counted-absent, counted-below}
use Rattle.flatten_rules.proofs.count.+below.Goals as goal

pub returns-then-levels-eq0 : goal.returns-then-levels-eq0
returns-then-levels-eq0 g t c =
    let weight = g.X.Measure.weight c.args.measure.now in
    sym (ap (λ levels. counted weight c.args.plain.now levels c.args.id) c.if-levels-eq0.true ∙ counted-nowhere weight c.args.plain.now c.args.id)

pub returns-in-None : goal.returns-in-None
returns-in-None g t c =
    c.absent.ensures
    ∙ sym (counted-absent (g.X.Measure.weight c.args.measure.now) c.args.plain.now c.args.id c.args.levels c.if-levels-eq0.false (sym c.in-None.ensures))

pub returns-after-loop-inst : goal.returns-after-loop-inst
returns-after-loop-inst g t c =
    let weight = g.X.Measure.weight c.args.measure.now in
    let M = c.args.plain.now in
    let all = take_all c.loop-inst.inst-index c.as_slice-inst-items.result.now c.loop-inst-test.false in
    c.min.ensures
    ∙ counted-below weight M c.args.id c.in-Some.holder.now c.args.levels c.number.result c.loop-inst.sum c.if-levels-eq0.false
    (sym c.in-Some.ensures) c.number.ensures
    (c.loop-inst.invariant ∙ ap (λ insts. min (sum_by (λ (inst : PInst). total (weight_in weight M) M inst.master (c.args.levels - 1)) insts) 4000001) (all ∙ c.as_slice-inst-items.ensures))
