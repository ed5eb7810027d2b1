use Rattle.std.proofs.Common.{arith, ◌≤◌}
use Rattle.vlog_lex.specs.Attribute.{StringPart}
use Rattle.vlog_lex.proofs.Walk.{through_onward}
use Rattle.vlog_lex.proofs.Attributes.{IsQuote, strings, escape_more, plain_more, string_open}
use Rattle.vlog_lex.proofs.attribute.string_end.Goals as goal

pub returns-in-34-clause-within : goal.returns-in-34-clause-within
returns-in-34-clause-within c =
    let from : c.args.start ≤ c.loop-at.at =
    through_onward (StringPart c.args.bytes.now) (IsQuote c.args.bytes.now) (strings c.args.bytes.now) _ _
    c.loop-at.invariant in
    (from, omega arith)

pub loop-at-preserved-in-92 : goal.loop-at-preserved-in-92
loop-at-preserved-in-92 c = escape_more c.args.bytes.now c.args.start c.loop-at.at c.loop-at.invariant c.in-92.is

pub loop-at-preserved : goal.loop-at-preserved
loop-at-preserved c =
    plain_more c.args.bytes.now c.args.start c.loop-at.at c.loop-at.invariant (λ is. omega (arith, is))
    (λ is. omega (arith, is))

pub returns-clause-none : goal.returns-clause-none
returns-clause-none c = string_open c.args.bytes.now c.args.start c.loop-at.at c.loop-at.invariant (omega arith)
