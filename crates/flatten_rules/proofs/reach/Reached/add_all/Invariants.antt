-- What is added is of the nodes so far, and all of these are there.
use Rattle.std.proofs.Common.{◌≡◌, take}
use Rattle.flatten_rules.specs.Reach.{Adds}
use Rattle.flatten_rules.proofs.reach.Reached.add_all.Given as goal

abbrev pub invariant-loop-node : goal.invariant-loop-node
invariant-loop-node l = (l.self.1 ≡ l.initial.self.1) × Adds l.initial.self.0 (take l.node-index l.nodes) l.self.0
