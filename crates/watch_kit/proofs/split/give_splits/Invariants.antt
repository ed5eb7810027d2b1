use Rattle.std.proofs.Common.{map, drop}
use Rattle.watch_kit.specs.inside.Keys.{bit_of}
use Rattle.watch_kit.proofs.Splits.{Given}
use Rattle.watch_kit.proofs.split.give_splits.Given as goal

abbrev pub invariant-loop-bit : goal.invariant-loop-bit
invariant-loop-bit l = Given l.id l.limit (map bit_of l.bits) (map bit_of (drop l.bit-index l.bits)) l.fn.desk l.desk
