use Rattle.std.proofs.Common.{refl, sym, ◌∙◌}
use Rattle.flatten_rules.proofs.Steps.{root-own, root-through}
use Rattle.flatten_rules.proofs.walk.way.Way.+root.Goals as goal

pub root_at-returns-in-None-clause-root : goal.root_at-returns-in-None-clause-root
root_at-returns-in-None-clause-root t c =
    root-own c.args.self.now.plain c.args.self.now.top c.args.self.now.path c.args.depth c.args.net c.args.offset c.in-None.ensures.source

pub root_at-returns-in-Some-clause-root : goal.root_at-returns-in-Some-clause-root
root_at-returns-in-Some-clause-root t c =
    c.root_of_source.ensures.root
    ∙ sym (root-through c.args.self.now.plain c.args.self.now.top c.args.self.now.path c.args.depth c.args.net c.args.offset c.in-Some.source (c.in-Some.ensures.below refl) c.requires c.in-Some.ensures.source)
