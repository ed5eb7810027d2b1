use Rattle.std.proofs.Common.{arith, sym, ◌∙◌}
use Rattle.vlog_lex.proofs.Attributes.{string_more, byte_more, attribute_open, attribute_open_at_string}
use Rattle.vlog_lex.proofs.attribute.attribute_end.Goals as goal

pub returns-in_err-string_end-in-34-clause-none : goal.returns-in_err-string_end-in-34-clause-none
returns-in_err-string_end-in-34-clause-none c =
    let open' = attribute_open_at_string c.args.bytes.now c.args.start c.loop-at.at c.loop-at.invariant c.in-34.is
    c.in_err-string_end-in-34.ensures.none in
    rw c.from_residual.ensures open'

pub loop-at-preserved-in_ok-string_end-in-34 : goal.loop-at-preserved-in_ok-string_end-in-34
loop-at-preserved-in_ok-string_end-in-34 c =
    string_more c.args.bytes.now c.args.start c.loop-at.at _ c.loop-at.invariant c.in-34.is
    c.in_ok-string_end-in-34.ensures.found

pub loop-at-preserved : goal.loop-at-preserved
loop-at-preserved c =
    byte_more c.args.bytes.now c.args.start c.loop-at.at c.loop-at.invariant (λ is. omega (arith, is))
    (sym c.stand_at.ensures ∙ c.if-stand_at.false)

pub returns-clause-none : goal.returns-clause-none
returns-clause-none c = attribute_open c.args.bytes.now c.args.start c.loop-at.at c.loop-at.invariant (omega arith)
