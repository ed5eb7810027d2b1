-- What is made so far, with what is still to be made, is all.
use Rattle.std.proofs.Common.{◌≡◌, ◌++◌, drop}
use Rattle.watch_kit.specs.Split.{moved}
use Rattle.watch_kit.specs.inside.Keys.{bit_of}
use Rattle.watch_kit.proofs.mover.Mover.moved.Given as goal

abbrev pub invariant-loop-source : goal.invariant-loop-source
invariant-loop-source l =
    moved (bit_of l.self.bit) l.self.to l.self.stay l.sources
    ≡ l.bits ++ moved (bit_of l.self.bit) l.self.to l.stay (drop l.source-index l.sources)
