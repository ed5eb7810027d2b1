use Rattle.std.proofs.Common.{◌∙◌, ap}
use Rattle.vlog_elab.specs.Named.{named}
use Rattle.vlog_elab.proofs.Sourcing.{conn-found, no_conn-found}
use Rattle.vlog_elab.proofs.conns.conn_to.Goals as goal

pub returns-in-Some : goal.returns-in-Some
returns-in-Some c =
    c.conn-in-Some.ensures
    ∙ conn-found c.args.conns.now c.in_ok-first.first.now c.in-Some.place.now c.args.place c.args.port.now
    c.in_ok-first.ensures.value c.if-is_none.ensures (c.in-Some.ensures ∙ ap (λ ps. named ps c.args.port.now) c.requires)

pub returns-in-None : goal.returns-in-None
returns-in-None c =
    no_conn-found c.args.conns.now c.in_ok-first.first.now c.args.place c.args.port.now
    c.in_ok-first.ensures.value c.if-is_none.ensures (c.in-None.ensures ∙ ap (λ ps. named ps c.args.port.now) c.requires)
