use Rattle.std.proofs.Common.{◌≡◌, take}
use Rattle.std.specs.List.{flat_map}
use Rattle.vlog_elab.specs.Named.{numbered}
use Rattle.vlog_elab.specs.Table.{inst_row, insts_in}
use Rattle.vlog_elab.proofs.rows.insts_of.Given as goal

abbrev pub invariant-loop-item : goal.invariant-loop-item
invariant-loop-item l = l.rows ≡ numbered (inst_row l.interfaces l.nets) 0 (flat_map insts_in (take l.item-index l.items))
