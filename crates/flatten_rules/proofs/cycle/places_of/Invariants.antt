-- The places are those for the instances so far.
use Rattle.std.proofs.Common.{◌≡◌, take}
use Rattle.flatten_rules.specs.Graph.{places_of}
use Rattle.flatten_rules.proofs.cycle.places_of.Given as goal

abbrev pub invariant-loop-inst : goal.invariant-loop-inst
invariant-loop-inst l = l.places ≡ places_of l.plain (take l.inst-index l.insts)
