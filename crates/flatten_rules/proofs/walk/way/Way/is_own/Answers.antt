use Rattle.std.proofs.Common.{ap, ◌∙◌}
use Rattle.flatten_rules.specs.Way.{is_at}
use Rattle.flatten_rules.specs.Domains.{is_own}
use Rattle.flatten_rules.proofs.OwnRoots.{own-here}
use Rattle.flatten_rules.proofs.walk.way.Way.is_own.Goals as goal

pub returns : goal.returns
returns c =
    c.is_at.ensures
    ∙ ap (λ depth. is_at c.root.result depth c.args.net c.args.offset) c.depth.ensures
    ∙ own-here c.args.self.now.path c.root.result c.args.net c.args.offset c.root.ensures.on
    ∙ ap (is_own (record { path = c.args.self.now.path; net = c.args.net; offset = c.args.offset })) c.root.ensures.root
