use Rattle.emh_base.specs.declared.plain.Src.TheVariants.{Tie0}
use Rattle.reports.specs.inside.PinCounts.{count_at}
use Rattle.reports.proofs.Filling.{sources-more}
use Rattle.reports.proofs.pin_counts.BitCounts.add_sources.Goals as goal

pub loop-offset-preserved : goal.loop-offset-preserved
loop-offset-preserved c =
    sources-more (λ port offset. count_at c.args.below.now.counts.entries (port, offset)) c.args.self.now.counts.entries c.loop-offset.self.counts.entries c.add_source.new.self.counts.entries c.args.port c.args.bits.now c.loop-offset.offset Tie0 c.at.result c.loop-offset-test.true c.at.ensures c.loop-offset.invariant c.in_ok-add_source.ensures
