-- The nodes so far have their edges.
use Rattle.std.proofs.Common.{◌≡◌, map, take}
use Rattle.emh_base.specs.declared.plain.PModule.{PModule}
use Rattle.flatten_rules.specs.Graph.{places_of}
use Rattle.flatten_rules.proofs.cycle.graph_of.Given as goal

abbrev pub invariant-loop-holder : goal.invariant-loop-holder
invariant-loop-holder l = l.graph ≡ map (λ (m : PModule). places_of l.plain m.insts) (take l.holder-index l.holder-items)
