use Rattle.std.proofs.Common.{◌≡◌, map, take}
use Rattle.std.specs.List.{flat_map}
use Rattle.watch_kit.specs.NetBits.{BitOf, bits_of_conn}
use Rattle.watch_kit.proofs.sweep.named_nets.Given as goal

abbrev pub invariant-loop-conn : goal.invariant-loop-conn
invariant-loop-conn l = l.nets ≡ map (λ (b : BitOf). b.net) (flat_map bits_of_conn (take l.conn-index l.conns))
