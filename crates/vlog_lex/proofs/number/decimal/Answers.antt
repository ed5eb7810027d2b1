use Rattle.std.proofs.Common.{arith, ◌≤◌, ◌^◌}
use Rattle.vlog_lex.specs.Number.{written}
use Rattle.vlog_lex.proofs.Numbers.{too_large}
use Rattle.vlog_lex.proofs.number.decimal.Goals as goal

pub returns-then-value-from : goal.returns-then-value-from
returns-then-value-from c small =
    let large : 2 ^ 32 ≤ written 10 c.args.digits.now =
    too_large c.loop-byte.value (2 ^ 32) c.args.digits.now c.loop-byte.byte-index (omega arith) c.if-byte-ne95.true
    c.loop-byte.invariant.1
    (omega arith) in
    omega (arith, large, small)
