use Rattle.flatten_rules.proofs.Pending.{starts-well, starts-before}
use Rattle.flatten_rules.proofs.walk.occurrences.Walk.new.Goals as goal

pub invariant_of-result : goal.invariant_of-result
invariant_of-result c =
    starts-well c.args.plain.now c.args.top c.in_ok-way.way c.as_slice-here.result.now c.new-2.result.items c.module.result.now c.in_ok-way.ensures c.module.ensures.there c.as_slice-here.ensures c.new-2.ensures.items c.requires

pub returns : goal.returns
returns c =
    starts-before c.args.plain.now c.args.top c.in_ok-way.way c.as_slice-here.result.now c.new-2.result.items c.module.result.now c.in_ok-way.ensures c.module.ensures.there c.as_slice-here.ensures c.new-2.ensures.items
