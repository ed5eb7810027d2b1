use Rattle.std.proofs.Common.{sym, ◌∙◌}
use Rattle.edit_rules.proofs.ReadLemmas.{master-live}
use Rattle.edit_rules.proofs.judging.common.master_of.Goals as goal

pub returns-clause-live : goal.returns-clause-live
returns-clause-live g c =
    master-live (g.F.Facts.state c.args.facts.now).plain c.requires.sound c.args.id c.args.inst c.unwrap.result (sym c.master.ensures ∙ c.unwrap.ensures)
