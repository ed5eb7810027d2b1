use Rattle.flatten_rules.proofs.Counting.{found-own}
use Rattle.flatten_rules.proofs.depth.next_level.Goals as goal

pub above-requires-clause-there : goal.above-requires-clause-there
above-requires-clause-there c =
    found-own c.args.plain.now c.holder-item.result c.loop-holder.holder-index c.requires.rise c.as_slice-holder-items.result.now c.as_slice-holder-items.ensures c.loop-holder-test.true c.holder-item.is
