use Rattle.std.proofs.Common.{take, map}
use Rattle.vlog_elab.specs.inside.Walk.{Passed}
use Rattle.vlog_elab.specs.inside.Walks.{step_walk}
use Rattle.vlog_elab.specs.Steps.{Declares}
use Rattle.vlog_read.specs.declared.tree.At.{At}
use Rattle.vlog_elab.proofs.connections.declare_all.Given as goal

abbrev pub invariant-loop-name : goal.invariant-loop-name
invariant-loop-name l = Passed step_walk l.initial.scope (map (λ (n : At). Declares n l.range) (take l.name-index l.names)) l.scope
