use Rattle.std.proofs.Common.{take}
use Rattle.vlog_elab.specs.inside.Walk.{Passed}
use Rattle.vlog_elab.specs.inside.Walks.{header_walk}
use Rattle.vlog_elab.proofs.declarations.add_names.Given as goal

abbrev pub invariant-loop-name : goal.invariant-loop-name
invariant-loop-name l = Passed header_walk l.initial.header (take l.name-index l.names) l.header
