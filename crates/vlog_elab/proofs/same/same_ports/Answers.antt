use Rattle.std.proofs.Common.{arith, true, false, sym, ◌∙◌}
use Rattle.vlog_elab.proofs.Alike.{lengths_differ, at_place, at_end}
use Rattle.vlog_elab.proofs.same.same_ports.Goals as goal

pub returns-then-len : goal.returns-then-len
returns-then-len c = sym (lengths_differ c.args.these.now c.args.those.now (λ e. c.if-len.true (c.len.ensures ∙ e ∙ sym c.len-2.ensures)))

pub returns-then-not-same_port : goal.returns-then-not-same_port
returns-then-not-same_port c =
    sym (c.loop-place.invariant ∙ at_place c.args.these.now c.args.those.now c.loop-place.place false (omega arith) (omega arith) (λ p q f g. sym c.if-not-same_port.true ∙ c.same_port.ensures p q f g))

pub loop-place-preserved : goal.loop-place-preserved
loop-place-preserved c =
    c.loop-place.invariant ∙ at_place c.args.these.now c.args.those.now c.loop-place.place true (omega arith) (omega arith) (λ p q f g. sym c.if-not-same_port.false ∙ c.same_port.ensures p q f g)

pub returns : goal.returns
returns c = sym (c.loop-place.invariant ∙ at_end c.args.these.now c.args.those.now c.loop-place.place (omega arith) (omega arith))
