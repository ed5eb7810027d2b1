use Rattle.std.proofs.lemmas.List.{nil_from_length}
use Rattle.flatten_rules.proofs.Left.{bits-go_on, bits-behind}
use Rattle.flatten_rules.proofs.walk.net_bits.BitWalk.next.Goals as goal

pub loop-self-preserved : goal.loop-self-preserved
loop-self-preserved c =
    let a = c.loop-self.self-inside in
    let there = rw c.way.ensures at c.module.ensures.there in
    let sound = rw c.way.ensures at c.module.ensures.sound in
    let all = c.nets_inside-self-inside.ensures in
    bits-go_on c.args.self.now.plain c.args.self.now.top a.walk c.advance.new.self a.nets.now c.nets_inside-self-inside.result.now a.offset c.module.result.now c.args.self.now.rest c.in_ok-advance-in-None.field-0 (nil_from_length a.nets.now c.in-None.ensures.cases) c.loop-self.invariant.plain c.loop-self.invariant.top c.in_ok-advance-in-None.ensures.plain c.in_ok-advance-in-None.ensures.top c.loop-self.invariant.rest c.in_ok-advance-in-None.ensures.next c.if-not-branch.false there sound all

pub invariant_of-self-else-offset-width : goal.invariant_of-self-else-offset-width
invariant_of-self-else-offset-width c =
    let a = c.loop-self.self-inside in
    bits-behind a.walk a.nets.now c.in-Some.others.now c.in-Some.net.now a.offset c.in-Some.ensures.cases.0 c.loop-self.invariant.left
