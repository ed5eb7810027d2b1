use Rattle.std.proofs.Common.{◌≡◌, ◌++◌, take}
use Rattle.std.specs.List.{flat_map}
use Rattle.vlog_elab.specs.Table.{part_bits}
use Rattle.vlog_elab.proofs.bits.push_parts.Given as goal

abbrev pub invariant-loop-part : goal.invariant-loop-part
invariant-loop-part l = l.bits ≡ l.initial.bits ++ flat_map (part_bits l.nets) (take l.part-index l.parts)
