use Rattle.std.proofs.Common.{◌∙◌, sym}
use Rattle.emh_base.specs.declared.plain.Src.TheVariants.{Tie0}
use Rattle.vlog_write.proofs.Whole.{follow_on, follow_no_more}
use Rattle.vlog_write.proofs.expr.follow.Goals as goal

pub returns-then-not-is_bit : goal.returns-then-not-is_bit
returns-then-not-is_bit c =
    sym (follow_no_more c.args.id c.args.bits.now c.loop-offset.offset Tie0 c.loop-offset-test.true
    (sym c.is_bit.ensures ∙ c.if-not-is_bit.true)) ∙ c.loop-offset.invariant

pub loop-offset-preserved : goal.loop-offset-preserved
loop-offset-preserved c =
    follow_on c.args.id c.args.bits.now c.loop-offset.offset Tie0 c.loop-offset-test.true
    (sym c.is_bit.ensures ∙ c.if-not-is_bit.false) ∙ c.loop-offset.invariant
