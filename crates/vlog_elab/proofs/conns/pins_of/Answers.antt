use Rattle.std.proofs.Common.{arith, ◌≡◌, ◌+◌, ◌++◌, take, length, sym, ◌∙◌, ap}
use Rattle.std.proofs.lemmas.List.{length-take-le}
use Rattle.vlog_elab.specs.inside.Pins.{pin_at, pins_from}
use Rattle.vlog_elab.proofs.Walking.{one_more}
use Rattle.vlog_elab.proofs.Sourcing.{pins_from-push}
use Rattle.vlog_elab.proofs.conns.pins_of.Goals as goal

pub loop-place-preserved : goal.loop-place-preserved
loop-place-preserved c =
    let len : 0 + length (take c.loop-place.place c.args.conns.now) ≡ c.loop-place.place = omega (arith, length-take-le c.loop-place.place c.args.conns.now) in
    c.in_ok-add_pin.ensures ∙ ap (λ ps. ps ++ pin_at c.loop-place.place c.index-conns-place.result.port) c.loop-place.invariant
    ∙ sym (ap (pins_from 0) (one_more c.args.conns.now c.loop-place.place c.index-conns-place.result (omega arith) c.index-conns-place.is)
    ∙ pins_from-push 0 (take c.loop-place.place c.args.conns.now) c.index-conns-place.result
    ∙ ap (λ n. pins_from 0 (take c.loop-place.place c.args.conns.now) ++ pin_at n c.index-conns-place.result.port) len)
