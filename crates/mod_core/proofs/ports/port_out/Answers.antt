use Rattle.std.proofs.Common.{ap, ◌∙◌, option_and_then, is_some}
use Rattle.mod_core.specs.inside.Linked.{port_link, port_rows}
use Rattle.mod_core.proofs.ports.port_out.Goals as goal

pub leave-requires-clause-linked : goal.leave-requires-clause-linked
leave-requires-clause-linked c = (c.args.key, ap (option_and_then port_rows.link_of) c.requires.net ∙ ap port_link c.requires.port)

pub set-requires-clause-live : goal.set-requires-clause-live
set-requires-clause-live c = c.leave.ensures.live c.args.key (ap is_some c.requires.net)
