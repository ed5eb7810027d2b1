use Rattle.std.proofs.Common.{sym}
use Rattle.flatten_rules.proofs.Sound.{sound-module}
use Rattle.flatten_rules.proofs.lookup.net_in.Goals as goal

pub net_of-requires : goal.net_of-requires
net_of-requires c =
    (sound-module c.args.plain.now c.args.id c.in-Some.holder.now c.requires (sym c.in-Some.ensures)).nets_rise
