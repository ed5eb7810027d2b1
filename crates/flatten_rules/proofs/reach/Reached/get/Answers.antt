use Rattle.std.proofs.Common.{◌∙◌}
use Rattle.flatten_rules.proofs.Following.{marked-below}
use Rattle.flatten_rules.proofs.reach.Reached.get.Goals as goal

pub returns-clause-node : goal.returns-clause-node
returns-clause-node c =
    rw (← c.self.view_is) (marked-below c.self.inside.order c.self.inside.flags.items c.args.at c.copied.result c.self.invariant (c.copied.ensures ∙ c.get.ensures))
