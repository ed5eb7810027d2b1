use Rattle.std.proofs.Common.{sym}
use Rattle.flatten_rules.proofs.Checking.{sound-has_nets}
use Rattle.flatten_rules.proofs.Sound.{sound-module}
use Rattle.gen_design.proofs.turns.port_width.Goals as goal

pub width_of-requires : goal.width_of-requires
width_of-requires c =
    let plain = c.args.plain.now in
    let holder = c.in-Some.holder.now in
    sound-has_nets plain holder (sound-module plain c.args.id holder c.requires (sym c.in-Some.ensures))
