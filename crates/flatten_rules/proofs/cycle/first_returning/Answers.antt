use Rattle.std.proofs.Common.{arith}
use Rattle.std.proofs.lemmas.Bool.{iff_false}
use Rattle.flatten_rules.proofs.Following.{none-more, falls-no_return}
use Rattle.flatten_rules.proofs.cycle.first_returning.Goals as goal

pub loop-node-preserved-then-falls : goal.loop-node-preserved-then-falls
loop-node-preserved-then-falls c =
    none-more c.args.graph.now c.args.from c.loop-node.node c.loop-node.invariant
    (falls-no_return c.in_ok-ranks.ranks.items c.args.graph.now c.loop-node.node c.requires c.loop-node-test.true c.in_ok-ranks.ensures
    (rw c.deref.ensures.value at (c.falls.ensures c.if-falls.true)))

pub loop-node-preserved : goal.loop-node-preserved
loop-node-preserved c =
    none-more c.args.graph.now c.args.from c.loop-node.node c.loop-node.invariant (iff_false c.in_ok-returns.ensures c.if-branch.false)

pub returns : goal.returns
returns c = λ a low high. c.loop-node.invariant a low (omega (arith, c.loop-node-test.false))
