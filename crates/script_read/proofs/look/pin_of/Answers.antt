use Rattle.std.proofs.Common.{sym, ◌∙◌}
use Rattle.edit_rules.proofs.ReadLemmas.{master-live}
use Rattle.script_read.proofs.look.pin_of.Goals as goal

pub port_named-requires-clause-live : goal.port_named-requires-clause-live
port_named-requires-clause-live g c =
    master-live (g.F.Facts.state c.args.facts.now).plain c.requires.sound c.args.module c.args.inst c.in-Some.of (sym c.master.ensures ∙ c.in-Some.is)
