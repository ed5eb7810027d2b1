use Rattle.std.proofs.Common.{refl}
use Rattle.vlog_elab.proofs.Joining.{mixes-order, mixes-name}
use Rattle.vlog_elab.proofs.connections.mixes.Goals as goal

pub returns-then-by_name : goal.returns-then-by_name
returns-then-by_name c = rw (c.if-by_name.true, mixes-name c.args.before.now, c.len.ensures, c.requires) refl

pub returns-else-by_name : goal.returns-else-by_name
returns-else-by_name c = rw (c.if-by_name.false, mixes-order c.args.before.now, c.len-else-by_name.ensures, c.requires) refl
