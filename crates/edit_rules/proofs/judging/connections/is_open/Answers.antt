use Rattle.std.proofs.Common.{◌∙◌}
use Rattle.edit_rules.proofs.ReadLemmas.{open-joined}
use Rattle.edit_rules.proofs.judging.connections.is_open.Goals as goal

pub returns : goal.returns
returns g c =
    c.is_open.ensures
    ∙ open-joined (g.F.Facts.state c.args.facts.now).plain c.requires.sound c.args.port c.args.id c.args.inst c.requires.there c.requires.port
