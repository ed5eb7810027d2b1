use Rattle.std.proofs.Common.{sym, ◌∙◌}
use Rattle.edit_rules.proofs.ReadLemmas.{range-allowed}
use Rattle.edit_rules.proofs.judging.ports.width_of.Goals as goal

pub width-requires : goal.width-requires
width-requires g c =
    range-allowed (g.F.Facts.state c.args.facts.now).plain c.requires.sound c.args.id c.args.net c.in-Some.range (sym c.net_range.ensures ∙ c.in-Some.is)
