use Rattle.std.proofs.Common.{reverse, arith}
use Rattle.flatten_rules.proofs.Comes.{net-there}
use Rattle.reports.proofs.occurrences.push_bits.Goals as goal

pub push_net_bits-requires-clause-there : goal.push_net_bits-requires-clause-there
push_net_bits-requires-clause-there c =
    let way = c.args.way.now in
    net-there way.plain way.top (reverse way.path) c.args.holder.now c.as_slice-net-items.result.now c.loop-net.net-index c.net-item.result c.requires.sound c.requires.there c.as_slice-net-items.ensures (omega arith) c.net-item.is
