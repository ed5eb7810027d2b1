use Rattle.std.proofs.Common.{◌≡◌, ◌%◌, ◌^◌, drop}
use Rattle.vlog_lex.specs.Number.{written_after, written}
use Rattle.vlog_lex.proofs.number.low_bits.Given as goal

abbrev pub invariant-loop-byte : goal.invariant-loop-byte
invariant-loop-byte l = written_after l.base l.bits (drop l.byte-index l.digits) % 2 ^ 128
    ≡ written l.base l.digits % 2 ^ 128
