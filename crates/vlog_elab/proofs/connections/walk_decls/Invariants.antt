use Rattle.std.proofs.Common.{take}
use Rattle.std.specs.List.{flat_map}
use Rattle.vlog_elab.specs.inside.Walk.{Passed}
use Rattle.vlog_elab.specs.inside.Walks.{step_walk}
use Rattle.vlog_elab.specs.Steps.{decl_steps}
use Rattle.vlog_elab.proofs.connections.walk_decls.Given as goal

abbrev pub invariant-loop-decl : goal.invariant-loop-decl
invariant-loop-decl l = Passed step_walk l.initial.scope (flat_map decl_steps (take l.decl-index l.decls)) l.scope
