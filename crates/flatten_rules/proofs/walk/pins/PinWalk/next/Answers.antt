use Rattle.std.proofs.Common.{◌≡◌, Some, arith}
use Rattle.std.proofs.lemmas.List.{nil_from_length}
use Rattle.flatten_rules.specs.Lookup.{net_of}
use Rattle.flatten_rules.proofs.Left.{pins-go_on, pins-behind, pin-allowed, pin-few, pin-more, pin-last}
use Rattle.flatten_rules.proofs.walk.pins.PinWalk.next.Goals as goal

pub loop-self-preserved : goal.loop-self-preserved
loop-self-preserved c =
    let a = c.loop-self.self-inside in
    let there = rw c.way.ensures at c.module-self-inside.ensures.there in
    let sound = rw c.way.ensures at c.module-self-inside.ensures.sound in
    let all = c.ports_inside-self-inside.ensures in
    pins-go_on c.args.self.now.plain c.args.self.now.top a.walk c.advance.new.self a.ports.now c.ports_inside-self-inside.result.now a.offset a.holder.now c.module-self-inside.result.now c.args.self.now.rest c.in_ok-advance-in-None.field-0 (nil_from_length a.ports.now c.in-None.ensures.cases) c.loop-self.invariant.plain c.loop-self.invariant.top c.in_ok-advance-in-None.ensures.plain c.in_ok-advance-in-None.ensures.top c.loop-self.invariant.rest c.in_ok-advance-in-None.ensures.next c.if-not-branch.false there sound all

pub overflow_add-offset : goal.overflow_add-offset
overflow_add-offset c =
    let a = c.loop-self.self-inside in
    let found : Some c.unwrap-net.result.now ≡ net_of a.holder.now c.in-Some.port.now.net = rw c.unwrap-net.ensures at c.net_of.ensures in
    omega (arith, pin-few c.args.self.now a.walk a.holder.now a.ports.now c.in-Some.others.now c.in-Some.port.now c.unwrap-net.result.now a.offset c.loop-self.invariant.rest c.in-Some.ensures.cases.0 found c.loop-self.invariant.left)

pub width-requires : goal.width-requires
width-requires c =
    let a = c.loop-self.self-inside in
    let found : Some c.unwrap-net.result.now ≡ net_of a.holder.now c.in-Some.port.now.net = rw c.unwrap-net.ensures at c.net_of.ensures in
    pin-allowed c.args.self.now a.walk a.holder.now a.ports.now c.in-Some.others.now c.in-Some.port.now c.unwrap-net.result.now a.offset c.loop-self.invariant.rest c.in-Some.ensures.cases.0 found c.loop-self.invariant.left

pub returns-then-offset-width-clause-next : goal.returns-then-offset-width-clause-next
returns-then-offset-width-clause-next c =
    let a = c.loop-self.self-inside in
    let found : Some c.unwrap-net.result.now ≡ net_of a.holder.now c.in-Some.port.now.net = rw c.unwrap-net.ensures at c.net_of.ensures in
    pin-more c.args.self.now a.walk a.holder.now a.ports.now c.in-Some.others.now c.in-Some.port.now c.unwrap-net.result.now a.offset c.loop-self.invariant.rest c.in-Some.ensures.cases.0 found c.loop-self.invariant.left (omega (arith, c.width.ensures.value, c.if-offset-width.true))

pub invariant_of-self-in-Some : goal.invariant_of-self-in-Some
invariant_of-self-in-Some c =
    let a = c.loop-self.self-inside in
    pins-behind a.walk a.holder.now a.ports.now c.in-Some.others.now c.in-Some.port.now a.offset c.in-Some.ensures.cases.0 c.loop-self.invariant.left

pub returns-in-Some-clause-next : goal.returns-in-Some-clause-next
returns-in-Some-clause-next c =
    let a = c.loop-self.self-inside in
    let found : Some c.unwrap-net.result.now ≡ net_of a.holder.now c.in-Some.port.now.net = rw c.unwrap-net.ensures at c.net_of.ensures in
    pin-last c.args.self.now a.walk a.holder.now a.ports.now c.in-Some.others.now c.in-Some.port.now c.unwrap-net.result.now a.offset c.loop-self.invariant.rest c.in-Some.ensures.cases.0 found c.loop-self.invariant.left (omega (arith, c.width.ensures.value, c.if-offset-width.false))
