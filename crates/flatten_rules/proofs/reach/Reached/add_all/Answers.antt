use Rattle.std.proofs.Common.{◌∙◌, get_or, refl}
use Rattle.flatten_rules.proofs.Following.{adds-more}
use Rattle.flatten_rules.proofs.reach.Reached.add_all.Goals as goal

pub loop-node-preserved : goal.loop-node-preserved
loop-node-preserved c = (
  c.in_ok-add.ensures.nodes ∙ c.loop-node.invariant.0,
  adds-more c.args.self.now.0 c.args.nodes.now c.loop-node.self.0 c.add.new.self.0 c.loop-node.node-index (get_or c.args.nodes.now c.loop-node.node-index 0)
      c.loop-node-test.true refl c.loop-node.invariant.1 c.in_ok-add.ensures.order,
)
