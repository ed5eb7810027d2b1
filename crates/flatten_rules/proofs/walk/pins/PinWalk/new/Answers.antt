use Rattle.flatten_rules.proofs.Left.{pins-start, pins-well}
use Rattle.flatten_rules.proofs.walk.pins.PinWalk.new.Goals as goal

pub invariant_of-result : goal.invariant_of-result
invariant_of-result c =
    let there = rw c.way.ensures at c.module-holder.ensures.there in
    let sound = rw c.way.ensures at c.module-holder.ensures.sound in
    pins-well c.args.plain.now c.args.top c.in_ok-walk.walk c.module-holder.result.now c.no_ports.result.now c.in_ok-walk.ensures there sound c.no_ports.ensures

pub returns : goal.returns
returns c =
    pins-start c.args.plain.now c.args.top c.in_ok-walk.walk c.module-holder.result.now c.no_ports.result.now c.in_ok-walk.ensures c.no_ports.ensures
