use Rattle.std.proofs.Common.{◌+◌, ap, ◌∙◌}
use Rattle.emh_base.specs.declared.plain.PInst.{PInst}
use Rattle.flatten_rules.specs.Counting.{height, greatest_by}
use Rattle.flatten_rules.proofs.Heights.{height-above}
use Rattle.flatten_rules.proofs.depth.above.Goals as goal

pub returns : goal.returns
returns c =
    c.highest_below.ensures
    ∙ ap (λ insts. greatest_by (λ (inst : PInst). height c.args.plain.now inst.master c.args.levels + 1) insts) c.as_slice.ensures
    ∙ height-above c.args.plain.now c.args.holder.now.id c.args.holder.now c.args.levels c.requires.there
