use Rattle.std.proofs.Common.{sym, ◌∙◌}
use Rattle.flatten_rules.proofs.Heights.{height-nowhere, heights-stay}
use Rattle.flatten_rules.proofs.depth.last_level.Goals as goal

pub loop-levels-init : goal.loop-levels-init
loop-levels-init c = c.in_ok-level.ensures ∙ height-nowhere c.args.plain.now

pub returns-then-are_same : goal.returns-then-are_same
returns-then-are_same c =
    heights-stay c.args.plain.now c.loop-levels.levels c.loop-levels.level c.in_ok-more.more c.loop-levels-test.true c.loop-levels.invariant c.in_ok-more.ensures
    (sym c.as_slice-in-loop-levels.ensures ∙ c.are_same.ensures c.if-are_same.true ∙ c.as_slice-in-loop-levels-2.ensures)
