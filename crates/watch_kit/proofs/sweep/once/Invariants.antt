use Rattle.std.proofs.Common.{◌≡◌, take}
use Rattle.watch_kit.specs.NetBits.{once}
use Rattle.watch_kit.specs.Sweep.{same_net}
use Rattle.watch_kit.proofs.sweep.once.Given as goal

abbrev pub invariant-loop-net : goal.invariant-loop-net
invariant-loop-net l = l.found ≡ once same_net (take l.net-index l.nets)
