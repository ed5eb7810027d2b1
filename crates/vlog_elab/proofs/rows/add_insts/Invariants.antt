use Rattle.std.proofs.Common.{◌≡◌, ◌++◌, map, take, length}
use Rattle.vlog_read.specs.declared.tree.TInst.{TInst}
use Rattle.vlog_elab.specs.Named.{numbered}
use Rattle.vlog_elab.specs.Table.{inst_row}
use Rattle.vlog_elab.proofs.rows.add_insts.Given as goal

abbrev pub invariant-loop-inst : goal.invariant-loop-inst
invariant-loop-inst l =
    l.rows ≡ l.initial.rows ++ numbered (inst_row l.interfaces l.nets) (length l.initial.rows) (map (λ (i : TInst). (l.master, i)) (take l.inst-index l.insts))
