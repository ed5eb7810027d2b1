use Rattle.std.proofs.Common.{rules, ◌+◌, ◌∙◌, sym, ap}
use Rattle.std.proofs.lemmas.Bool.{eq-eqb, ne_eqb}
use Rattle.script_read.proofs.Division.{lines-ended, lines-open}
use Rattle.script_read.proofs.lines.line_count.Goals as goal

pub returns-then-last-eq10 : goal.returns-then-last-eq10
returns-then-last-eq10 c =
    ap (λ n. n + 1) c.newlines.ensures.value
    ∙ sym (lines-ended c.args.bytes.now c.in-Some.text.now c.in-Some.last.now (search rules) (eq-eqb _ _ c.if-last-eq10.true))

pub returns-else-last-eq10 : goal.returns-else-last-eq10
returns-else-last-eq10 c =
    ap (λ n. n + 1) c.newlines-in-Some.ensures.value
    ∙ sym (lines-open c.args.bytes.now c.in-Some.text.now c.in-Some.last.now (search rules) (ne_eqb _ _ c.if-last-eq10.false))
