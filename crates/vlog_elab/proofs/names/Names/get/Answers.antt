use Rattle.std.proofs.Common.{sym, ◌∙◌}
use Rattle.vlog_elab.proofs.Naming.{value-at, there-None}
use Rattle.vlog_elab.proofs.names.Names.get.Goals as goal

pub returns-in-Some : goal.returns-in-Some
returns-in-Some g c = c.at.ensures ∙ value-at c.in-Some.place c.args.name.now c.args.self.now (sym c.in-Some.ensures)

pub returns-in-None : goal.returns-in-None
returns-in-None g c = sym (there-None c.args.name.now c.args.self.now (sym c.in-None.ensures))
