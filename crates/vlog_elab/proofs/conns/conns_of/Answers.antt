use Rattle.std.proofs.Common.{arith, ◌++◌, ◌∷◌, [], sym, ◌∙◌, ap}
use Rattle.vlog_elab.proofs.Sourcing.{conns_more}
use Rattle.vlog_elab.proofs.conns.conns_of.Goals as goal

pub loop-place-preserved : goal.loop-place-preserved
loop-place-preserved c =
    c.in_ok-push.ensures.ok ∙ ap (λ made. made ++ c.in_ok-conn_at.field-0 ∷ []) c.loop-place.invariant
    ∙ sym (conns_more c.args.nets.now c.args.ports.now c.args.conns.now c.loop-place.place c.in_ok-conn_at.field-0 (omega arith) c.in_ok-conn_at.ensures)
