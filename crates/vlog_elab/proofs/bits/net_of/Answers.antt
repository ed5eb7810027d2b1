use Rattle.vlog_elab.proofs.Sourcing.{net-found, no_net-found}
use Rattle.vlog_elab.proofs.bits.net_of.Goals as goal

pub returns-in_ok-number-in-Some : goal.returns-in_ok-number-in-Some
returns-in_ok-number-in-Some c =
    net-found c.args.nets.now c.args.name.now c.in-Some.place c.in_ok-number-in-Some.field-0 c.range_at.result c.in-Some.ensures c.in_ok-number-in-Some.ensures c.range_at.ensures

pub returns-in-None : goal.returns-in-None
returns-in-None c = no_net-found c.args.nets.now c.args.name.now c.in-None.ensures
