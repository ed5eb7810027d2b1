use Rattle.std.proofs.Common.{ℕ, ◌<◌, get_or}
use Rattle.emh_base.specs.declared.plain.PNet.{PNet}
use Rattle.emh_base.specs.declared.plain.PInst.{PInst}
use Rattle.emh_base.specs.Name.{IsName}
use Rattle.vlog_write.proofs.law.is_named.Given as goal

abbrev pub invariant-loop-net : goal.invariant-loop-net
invariant-loop-net l = (k : ℕ) (d : PNet) → k < l.net-index → IsName (get_or l.nets k d).name

abbrev pub invariant-loop-inst : goal.invariant-loop-inst
invariant-loop-inst l = (k : ℕ) (d : PInst) → k < l.inst-index → IsName (get_or l.insts k d).name
