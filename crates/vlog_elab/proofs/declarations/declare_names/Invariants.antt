use Rattle.std.proofs.Common.{take, map}
use Rattle.vlog_elab.specs.inside.Walk.{Passed}
use Rattle.vlog_elab.specs.inside.Walks.{place_walk}
use Rattle.vlog_elab.specs.Interfaces.{name_place}
use Rattle.vlog_elab.specs.Text.{range_of}
use Rattle.vlog_elab.proofs.declarations.declare_names.Given as goal

abbrev pub invariant-loop-name : goal.invariant-loop-name
invariant-loop-name l = Passed (place_walk l.leaf l.header) l.initial.said (map (name_place l.decl.dir (range_of l.decl)) (take l.name-index l.names)) l.said
