use Rattle.std.proofs.Common.{ap, ◌∙◌}
use Rattle.reports.specs.inside.PinCounts.{count_at}
use Rattle.reports.proofs.Filling.{counted-there}
use Rattle.reports.proofs.pin_counts.PinCounts.at.Goals as goal

pub returns-clause-count : goal.returns-clause-count
returns-clause-count c =
    let counts = c.in-Some-index.counted.counts.entries in
    let counted = counted-there c.args.plain.now c.fill.new.self.modules.items c.in-Some.place c.args.id c.index.result.now c.in-Some-index.counted c.in_ok-fill-in-Some.ensures.counted c.in-Some.ensures.found c.index.ensures c.in-Some-index.is in
    c.at.ensures ∙ ap (λ offset. count_at counts (c.args.net, offset)) c.from.ensures ∙ counted (c.args.net, c.args.offset)
