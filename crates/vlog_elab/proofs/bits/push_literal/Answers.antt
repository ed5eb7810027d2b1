use Rattle.std.proofs.Common.{arith, ◌++◌, ◌∷◌, [], sym, ◌∙◌, ap, ◌-◌, ◌+◌}
use Rattle.vlog_elab.specs.Table.{literal_bits}
use Rattle.vlog_elab.proofs.Sourcing.{literal_more}
use Rattle.vlog_elab.proofs.bits.push_literal.Goals as goal

pub loop-done-preserved : goal.loop-done-preserved
loop-done-preserved c =
    literal_more c.args.size c.loop-done.done c.args.value c.args.bits.now c.loop-done.bits (omega arith) c.loop-done.invariant
    ∙ ap (λ bits. bits ++ literal_bits (c.args.size - (c.loop-done.done + 1)) c.args.value) (sym (c.in_ok-push.ensures.ok ∙ ap (λ tie. c.loop-done.bits ++ tie ∷ []) c.tie_of.ensures))
