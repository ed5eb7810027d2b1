use Rattle.std.proofs.Common.{not, sym, ap, ◌∙◌}
use Rattle.std.proofs.lemmas.Bool.{false≢true, not-true}
use Rattle.flatten_rules.proofs.LimitTests.{within_tests}
use Rattle.flatten_rules.proofs.limits.is_within.Goals as goal

pub returns-then-branch : goal.returns-then-branch
returns-then-branch c =
    let law = within_tests c.args.plain.now c.args.top c.requires in (
      λ yes. absurd (false≢true yes),
      λ within. absurd (false≢true (sym (sym c.if-branch.true ∙ c.in_ok-is_too_deep.ensures ∙ (law.0 within).0))),
    )

pub returns : goal.returns
returns c =
    let law = within_tests c.args.plain.now c.args.top c.requires in
    let deep = sym c.in_ok-is_too_deep.ensures ∙ c.if-branch.false in
    let many = sym c.in_ok-has_too_many_occurrences.ensures ∙ c.if-branch-2.false in (
      λ kept. law.1 (deep, many, sym c.in_ok-has_too_many_bits.ensures ∙ not-true c.in_ok-has_too_many_bits.field-0 kept),
      λ within. ap not (c.in_ok-has_too_many_bits.ensures ∙ (law.0 within).2),
    )
