use Rattle.std.proofs.Common.{rules}
use Rattle.edit_rules.proofs.judging.nets.new_net.Goals as goal

pub returns-clause-net : goal.returns-clause-net
returns-clause-net g c =
    let many = c.makes_too_many_bits.ensures.net c.args.name.now in
    search (rules, many)

pub returns-clause-port : goal.returns-clause-port
returns-clause-port g c dir =
    let many = c.makes_too_many_bits.ensures.port c.args.name.now dir in
    search (rules, many)
