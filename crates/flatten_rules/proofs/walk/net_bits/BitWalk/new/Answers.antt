use Rattle.flatten_rules.proofs.Left.{bits-start}
use Rattle.flatten_rules.proofs.walk.net_bits.BitWalk.new.Goals as goal

pub returns : goal.returns
returns c =
    bits-start c.args.plain.now c.args.top c.in_ok-walk.walk c.no_nets.result.now c.in_ok-walk.ensures c.no_nets.ensures
