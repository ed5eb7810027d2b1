use Rattle.std.proofs.Common.{◌==◌, sym}
use Rattle.emh_base.specs.declared.plain.PNet.{PNet}
use Rattle.flatten_rules.specs.Sound.{IsAllowed}
use Rattle.flatten_rules.proofs.Sound.{All-find}
use Rattle.reports.proofs.pin_counts.BitCounts.add_port.Goals as goal

pub width-requires : goal.width-requires
width-requires c =
    All-find (λ (net : PNet). IsAllowed net.range) (λ (net : PNet). net.id.0 == c.args.port.net.0) c.args.holder.now.nets c.in-Some.net.now c.requires.1.ranges (sym c.in-Some.ensures)
