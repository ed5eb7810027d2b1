use Rattle.std.proofs.Common.{take}
use Rattle.std.specs.List.{flat_map}
use Rattle.vlog_elab.specs.inside.Walk.{Passed}
use Rattle.vlog_elab.specs.inside.Walks.{header_walk}
use Rattle.vlog_read.specs.declared.tree.Decl.{Decl}
use Rattle.vlog_elab.proofs.declarations.add_decls.Given as goal

abbrev pub invariant-loop-decl : goal.invariant-loop-decl
invariant-loop-decl l = Passed header_walk l.initial.header (flat_map (λ (d : Decl). d.names) (take l.decl-index l.decls)) l.header
