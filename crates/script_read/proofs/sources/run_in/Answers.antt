use Rattle.std.proofs.Common.{sym, ◌∙◌}
use Rattle.edit_rules.proofs.ReadLemmas.{range-allowed}
use Rattle.script_read.proofs.sources.run_in.Goals as goal

pub run_of-requires : goal.run_of-requires
run_of-requires g c =
    range-allowed (g.F.Facts.state c.args.facts.now).plain c.requires.sound c.args.module c.args.net c.in-Some.range (sym c.net_range.ensures ∙ c.in-Some.is)
