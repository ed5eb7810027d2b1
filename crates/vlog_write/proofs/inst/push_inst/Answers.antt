use Rattle.std.proofs.Common.{sym}
use Rattle.flatten_rules.proofs.Checking.{sound-has_nets}
use Rattle.flatten_rules.proofs.Sound.{sound-module}
use Rattle.vlog_write.proofs.inst.push_inst.Goals as goal

pub push_conns-requires-clause-master : goal.push_conns-requires-clause-master
push_conns-requires-clause-master c =
    sound-has_nets c.args.plain.now c.in-Some.master.now
    (sound-module c.args.plain.now c.args.inst.now.master c.in-Some.master.now c.requires.sound (sym c.in-Some.ensures))
