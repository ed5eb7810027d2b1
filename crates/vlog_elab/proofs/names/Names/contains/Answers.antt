use Rattle.std.proofs.Common.{sym, ◌∙◌, ap, is_some}
use Rattle.vlog_elab.proofs.Naming.{is_there-place}
use Rattle.vlog_elab.proofs.names.Names.contains.Goals as goal

pub returns : goal.returns
returns g c = c.is_some.ensures ∙ ap is_some c.find.ensures ∙ sym (is_there-place 0 c.args.name.now c.args.self.now)
