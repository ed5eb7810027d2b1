-- None of the nodes so far reaches itself.
use Rattle.flatten_rules.specs.Graph.{NoneReturns}
use Rattle.flatten_rules.proofs.cycle.first_returning.Given as goal

abbrev pub invariant-loop-node : goal.invariant-loop-node
invariant-loop-node l = NoneReturns l.graph l.from l.node
