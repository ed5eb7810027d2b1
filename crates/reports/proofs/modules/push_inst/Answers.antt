use Rattle.std.proofs.Common.{sym}
use Rattle.flatten_rules.proofs.Sound.{sound-module}
use Rattle.flatten_rules.proofs.Checking.{fit-length}
use Rattle.reports.proofs.modules.push_inst.Goals as goal

pub push_conns-requires-clause-ports : goal.push_conns-requires-clause-ports
push_conns-requires-clause-ports c =
    (sound-module c.args.plain.now c.args.inst.now.master c.in-Some.master.now c.requires.sound (sym c.in-Some.ensures)).nets_rise

pub push_conns-requires-clause-many : goal.push_conns-requires-clause-many
push_conns-requires-clause-many c =
    sym (fit-length c.args.holder.now c.in-Some.master.now c.in-Some.master.now.ports c.args.inst.now.conns (rw (← c.in-Some.ensures) at c.requires.master))
