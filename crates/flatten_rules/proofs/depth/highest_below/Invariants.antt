-- The highest is that of the instances so far.
use Rattle.std.proofs.Common.{◌≡◌, ◌+◌, take}
use Rattle.emh_base.specs.declared.plain.PInst.{PInst}
use Rattle.flatten_rules.specs.Counting.{height, greatest_by}
use Rattle.flatten_rules.proofs.depth.highest_below.Given as goal

abbrev pub invariant-loop-inst : goal.invariant-loop-inst
invariant-loop-inst l = l.highest ≡ greatest_by (λ (inst : PInst). height l.plain inst.master l.levels + 1) (take l.inst-index l.insts)
