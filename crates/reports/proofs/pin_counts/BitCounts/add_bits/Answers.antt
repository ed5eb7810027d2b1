use Rattle.reports.proofs.Filling.{bits-more}
use Rattle.reports.proofs.pin_counts.BitCounts.add_bits.Goals as goal

pub loop-offset-preserved : goal.loop-offset-preserved
loop-offset-preserved c =
    bits-more c.args.self.now.counts.entries c.loop-offset.self.counts.entries c.add.new.self.counts.entries c.args.net c.loop-offset.offset c.loop-offset.invariant c.in_ok-add.ensures
