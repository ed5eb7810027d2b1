use Rattle.std.proofs.Common.{take}
use Rattle.std.specs.List.{flat_map}
use Rattle.vlog_elab.specs.inside.Walk.{Passed}
use Rattle.vlog_elab.specs.inside.Walks.{place_walk}
use Rattle.vlog_elab.specs.Interfaces.{decl_places}
use Rattle.vlog_elab.proofs.declarations.declare_decls.Given as goal

abbrev pub invariant-loop-decl : goal.invariant-loop-decl
invariant-loop-decl l = Passed (place_walk l.leaf l.header) l.initial.said (flat_map decl_places (take l.decl-index l.decls)) l.said
