use Rattle.cases.proofs.TextLemmas.{common_lines-ended}
use Rattle.cases.proofs.verdict.common_lines.Goals as goal

pub returns-else-at-other : goal.returns-else-at-other
returns-else-at-other c =
    common_lines-ended c.args.text.now c.args.other.now c.loop-at.at c.loop-at.lines _ c.if-at-other.false c.loop-at.invariant.counted
