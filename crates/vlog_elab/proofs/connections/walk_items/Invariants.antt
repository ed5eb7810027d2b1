use Rattle.std.proofs.Common.{take}
use Rattle.std.specs.List.{flat_map}
use Rattle.vlog_elab.specs.inside.Walk.{Passed}
use Rattle.vlog_elab.specs.inside.Walks.{step_walk}
use Rattle.vlog_elab.specs.Steps.{item_steps}
use Rattle.vlog_elab.proofs.connections.walk_items.Given as goal

abbrev pub invariant-loop-item : goal.invariant-loop-item
invariant-loop-item l = Passed step_walk l.initial.scope (flat_map (item_steps l.interfaces) (take l.item-index l.items)) l.scope
