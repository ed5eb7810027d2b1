use Rattle.std.proofs.Common.{arith, ◌%◌, ◌^◌, ◌∙◌, sym, ap}
use Rattle.vlog_lex.specs.Number.{written}
use Rattle.vlog_lex.proofs.Numbers.{low_digit, past_underscore, lowest, whole}
use Rattle.vlog_lex.proofs.number.low_bits.Goals as goal
use Rattle.vlog_lex.proofs.number.low_bits.Goals.{then-byte-ne95, else-byte-ne95}

pub loop-byte-preserved : goal.loop-byte-preserved
loop-byte-preserved c =
    let v = c.loop-byte.bits in
    let digits = c.args.digits.now in
    let i = c.loop-byte.byte-index in
    elim c.if-byte-ne95.branch [
      | then-byte-ne95 w ↦
          let is = rw (w.from.ensures, w.from-then-byte-ne95.ensures, w.digit_of.ensures.worth) at w.bits-is in
          low_digit c.args.base v c.if-byte-ne95.bits (2 ^ 128) digits i (omega arith) w.if-byte-ne95.true is
          ∙ c.loop-byte.invariant
      | else-byte-ne95 w ↦
          rw w.bits-is
          (ap (λ x. x % 2 ^ 128) (sym (past_underscore c.args.base v digits i (omega arith) w.if-byte-ne95.false))
          ∙ c.loop-byte.invariant)
    ]

pub returns-else-size-eq128 : goal.returns-else-size-eq128
returns-else-size-eq128 c =
    let kept = whole c.args.base c.loop-byte.bits c.args.digits.now c.loop-byte.byte-index (omega arith) in
    let same = rw kept at c.loop-byte.invariant in
    lowest c.args.size c.loop-byte.bits (written c.args.base c.args.digits.now) (omega arith) same
