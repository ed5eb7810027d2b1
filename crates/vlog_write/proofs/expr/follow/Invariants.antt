use Rattle.std.proofs.Common.{◌≡◌, ◌-◌, drop, length}
use Rattle.flatten_rules.specs.Lookup.{bits_from}
use Rattle.vlog_write.specs.TreeOf.{are_same}
use Rattle.vlog_write.proofs.expr.follow.Given as goal

abbrev pub invariant-loop-offset : goal.invariant-loop-offset
invariant-loop-offset l =
    are_same (drop l.offset l.bits) (bits_from l.id l.offset (length l.bits - l.offset))
    ≡ are_same l.bits (bits_from l.id 0 (length l.bits))
