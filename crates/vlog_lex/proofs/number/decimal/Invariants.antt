use Rattle.std.proofs.Common.{◌≡◌, ◌<◌, ◌^◌, drop}
use Rattle.vlog_lex.specs.Number.{written_after, written}
use Rattle.vlog_lex.proofs.number.decimal.Given as goal

abbrev pub invariant-loop-byte : goal.invariant-loop-byte
invariant-loop-byte l = (l.value < 2 ^ 32)
    × (written_after 10 l.value (drop l.byte-index l.digits) ≡ written 10 l.digits)
