use Rattle.std.proofs.Common.{sym}
use Rattle.flatten_rules.proofs.Sound.{sound-module}
use Rattle.flatten_rules.proofs.lookup.inst_in.Goals as goal

pub find-requires : goal.find-requires
find-requires c =
    rw c.as_slice.ensures
    (sound-module c.args.plain.now c.args.id c.in-Some.holder.now c.requires (sym c.in-Some.ensures)).insts_rise
