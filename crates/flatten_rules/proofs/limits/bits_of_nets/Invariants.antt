-- The bits are those of the nets so far.
use Rattle.std.proofs.Common.{◌≡◌, min, take, sum_by}
use Rattle.emh_base.specs.declared.plain.PNet.{PNet}
use Rattle.flatten_rules.specs.Lookup.{width}
use Rattle.flatten_rules.proofs.limits.bits_of_nets.Given as goal

abbrev pub invariant-loop-net : goal.invariant-loop-net
invariant-loop-net l = l.bits ≡ min (sum_by (λ (net : PNet). width net.range) (take l.net-index l.net-items)) 4000001
