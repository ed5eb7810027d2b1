use Rattle.std.proofs.Common.{take}
use Rattle.std.specs.List.{flat_map}
use Rattle.vlog_elab.specs.inside.Walk.{Passed}
use Rattle.vlog_elab.specs.inside.Walks.{place_walk}
use Rattle.vlog_elab.specs.Interfaces.{item_places}
use Rattle.vlog_elab.proofs.declarations.declare_items.Given as goal

abbrev pub invariant-loop-item : goal.invariant-loop-item
invariant-loop-item l = Passed (place_walk l.leaf l.header) l.initial.said (flat_map item_places (take l.item-index l.items)) l.said
