use Rattle.std.proofs.Common.{◌≡◌, ◌++◌, map, take}
use Rattle.std.specs.List.{flat_map}
use Rattle.watch_kit.specs.NetBits.{BitOf, bits_in}
use Rattle.watch_kit.proofs.sweep.push_nets_of.Given as goal

abbrev pub invariant-loop-source : goal.invariant-loop-source
invariant-loop-source l =
    l.nets ≡ l.initial.nets ++ map (λ (b : BitOf). b.net) (flat_map bits_in (take l.source-index l.bits))
