use Rattle.std.proofs.Common.{◌+◌, map, drop, get_or, ap, subst, arith, List}
use Rattle.std.proofs.lemmas.List.{drop_more, drop_all}
use Rattle.std.proofs.lemmas.Result.{err_from_is_err_and}
use Rattle.watch_kit.specs.declared.net_bits.BitOf.{BitOf as Key}
use Rattle.watch_kit.specs.inside.Keys.{bit_of}
use Rattle.watch_kit.proofs.Splits.{Given, given-none, given-more, given-halt, given-all}
use Rattle.watch_kit.proofs.split.give_splits.Goals as goal

pub loop-bit-init : goal.loop-bit-init
loop-bit-init c = given-none c.args.id c.args.limit (map bit_of c.args.bits.now) c.args.desk.now

pub loop-bit-preserved : goal.loop-bit-preserved
loop-bit-preserved c =
    let bits = c.args.bits.now in
    let i = c.loop-bit.bit-index in
    let none : Key = record { net = record { 0 = 0 }; offset = 0 } in
    given-more c.args.id c.args.limit (map bit_of bits) (map bit_of (drop i bits)) (map bit_of (drop (i + 1) bits)) (bit_of (get_or bits i none)) (ap (map bit_of) (drop_more bits i none c.loop-bit-test.true))
    c.args.desk.now c.loop-bit.desk c.give_split.new.desk c.loop-bit.invariant c.in_ok-give_split.ensures

pub returns-in_err-give_split : goal.returns-in_err-give_split
returns-in_err-give_split c =
    let bits = c.args.bits.now in
    let i = c.loop-bit.bit-index in
    let none : Key = record { net = record { 0 = 0 }; offset = 0 } in
    let p = err_from_is_err_and c.from_residual.result c.from_residual.ensures.1 in
    rw (p.1, p.2)
    (given-halt c.args.id c.args.limit (map bit_of bits) (map bit_of (drop i bits)) (map bit_of (drop (i + 1) bits)) (bit_of (get_or bits i none)) (ap (map bit_of) (drop_more bits i none c.loop-bit-test.true))
    c.args.desk.now c.loop-bit.desk c.give_split.new.desk c.loop-bit.invariant _ c.in_err-give_split.ensures)

pub returns : goal.returns
returns c =
    let bits = c.args.bits.now in
    let P : List Key → Type 0 = λ left. Given c.args.id c.args.limit (map bit_of bits) (map bit_of left) c.args.desk.now c.loop-bit.desk in
    given-all c.args.id c.args.limit (map bit_of bits) c.args.desk.now c.loop-bit.desk
    (subst P (drop_all c.loop-bit.bit-index bits (omega arith)) c.loop-bit.invariant)
