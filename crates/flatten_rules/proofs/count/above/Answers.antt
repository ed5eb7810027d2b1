use Rattle.std.proofs.Common.{min, sum_by, ap, ◌∙◌}
use Rattle.emh_base.specs.declared.plain.PInst.{PInst}
use Rattle.flatten_rules.specs.Counting.{total}
use Rattle.flatten_rules.specs.inside.Levels.{weight_in}
use Rattle.flatten_rules.proofs.Counting.{counted-above}
use Rattle.flatten_rules.proofs.count.above.Goals as goal

pub returns : goal.returns
returns g c =
    let weight = g.X.Measure.weight c.args.measure.now in
    let M = c.args.plain.now in
    c.min.ensures
    ∙ counted-above weight M c.args.holder.now.id c.args.holder.now c.args.levels c.number.result c.sum_below-below.result c.requires.there c.number.ensures
    (c.sum_below-below.ensures ∙ ap (λ insts. min (sum_by (λ (inst : PInst). total (weight_in weight M) M inst.master c.args.levels) insts) 4000001) c.as_slice.ensures)
