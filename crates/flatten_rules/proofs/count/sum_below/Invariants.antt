-- The sum is that of the instances so far.
use Rattle.std.proofs.Common.{◌≡◌, min, take, sum_by}
use Rattle.emh_base.specs.declared.plain.PInst.{PInst}
use Rattle.flatten_rules.specs.Counting.{total}
use Rattle.flatten_rules.specs.inside.Levels.{weight_in}
use Rattle.flatten_rules.proofs.count.sum_below.Given as goal

abbrev pub invariant-loop-inst : goal.invariant-loop-inst
invariant-loop-inst g l =
    l.sum ≡ min (sum_by (λ (inst : PInst). total (weight_in (g.X.Measure.weight l.measure) l.plain) l.plain inst.master l.levels) (take l.inst-index l.insts)) 4000001
