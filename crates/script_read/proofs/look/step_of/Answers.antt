use Rattle.std.proofs.Common.{sym, ◌∙◌}
use Rattle.edit_rules.proofs.ReadLemmas.{master-live}
use Rattle.script_read.proofs.look.step_of.Goals as goal

pub returns-in-Some-master-clause-live : goal.returns-in-Some-master-clause-live
returns-in-Some-master-clause-live g c =
    master-live (g.F.Facts.state c.args.facts.now).plain c.requires.sound c.args.module c.in-Some.inst c.in-Some-master.below (sym c.master.ensures ∙ c.in-Some-master.is)
