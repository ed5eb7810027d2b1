use Rattle.std.proofs.Common.{ap, sym, ◌∙◌, option_and_then}
use Rattle.mod_core.specs.inside.Linked.{net_rows}
use Rattle.mod_core.proofs.nets.net_out.Goals as goal

pub leave-requires-clause-linked : goal.leave-requires-clause-linked
leave-requires-clause-linked c = (c.args.key, ap (option_and_then net_rows.link_of) (sym c.get.ensures ∙ c.unwrap-row.ensures))
