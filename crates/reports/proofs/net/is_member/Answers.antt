use Rattle.std.proofs.Common.{ap, ◌∙◌}
use Rattle.flatten_rules.specs.Way.{root_on}
use Rattle.reports.specs.Net.{is_same}
use Rattle.reports.proofs.Roots.{tells-same}
use Rattle.reports.proofs.net.is_member.Goals as goal

pub returns : goal.returns
returns c =
    tells-same c.is_root.result (root_on c.args.way.now.path c.root.result) c.args.root.now c.is_root.ensures
    ∙ ap (is_same c.args.root.now) c.root.ensures.root
