use Rattle.std.proofs.Common.{sym, ◌∙◌}
use Rattle.script_read.proofs.Live.{named_live}
use Rattle.script_read.proofs.look.a_module.Goals as goal

pub returns-in-Some-clause-live : goal.returns-in-Some-clause-live
returns-in-Some-clause-live g c =
    named_live (g.F.Facts.state c.args.facts.now) c.args.name.now c.in-Some.id (rw c.as_bytes.ensures.value at (sym c.module_named.ensures ∙ c.in-Some.is))
