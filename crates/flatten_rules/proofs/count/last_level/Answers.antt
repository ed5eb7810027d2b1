use Rattle.std.proofs.Common.{sym, ◌∙◌, arith}
use Rattle.flatten_rules.proofs.Counting.{level-nowhere, level-stays}
use Rattle.flatten_rules.proofs.count.last_level.Goals as goal

pub loop-levels-init : goal.loop-levels-init
loop-levels-init g c = c.in_ok-level.ensures ∙ level-nowhere (g.X.Measure.weight c.args.measure.now) c.args.plain.now

pub returns-then-are_same : goal.returns-then-are_same
returns-then-are_same g c =
    level-stays (g.X.Measure.weight c.args.measure.now) c.args.plain.now c.loop-levels.levels c.loop-levels.level c.in_ok-more.more
    (λ none. absurd (omega (arith, none, c.if-levels-gt0.true))) c.loop-levels-test.true c.loop-levels.invariant c.in_ok-more.ensures
    (sym c.as_slice-then-levels-gt0.ensures ∙ c.are_same.ensures c.if-are_same.true ∙ c.as_slice-then-levels-gt0-2.ensures)
