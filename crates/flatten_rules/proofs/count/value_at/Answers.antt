use Rattle.std.proofs.Common.{sym, ap, ◌∙◌}
use Rattle.flatten_rules.specs.inside.Levels.{counted}
use Rattle.flatten_rules.proofs.Counting.{counted-nowhere, counted-absent, counted-at}
use Rattle.flatten_rules.proofs.count.value_at.Goals as goal

pub returns-then-levels-eq0 : goal.returns-then-levels-eq0
returns-then-levels-eq0 g c =
    let weight = g.X.Measure.weight c.args.measure.now in
    sym (ap (λ levels. counted weight c.args.plain.now levels c.args.id) c.if-levels-eq0.true ∙ counted-nowhere weight c.args.plain.now c.args.id)

pub returns-in-Some : goal.returns-in-Some
returns-in-Some g c =
    counted-at (g.X.Measure.weight c.args.measure.now) c.args.plain.now c.args.levels c.args.level.now c.args.id c.in-Some.place c.requires.known c.in-Some.ensures.found

pub returns-else-levels-eq0 : goal.returns-else-levels-eq0
returns-else-levels-eq0 g c =
    c.absent.ensures
    ∙ sym (counted-absent (g.X.Measure.weight c.args.measure.now) c.args.plain.now c.args.id c.args.levels c.if-levels-eq0.false c.in-None.ensures.none)
