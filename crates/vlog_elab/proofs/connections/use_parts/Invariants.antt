use Rattle.std.proofs.Common.{take, map}
use Rattle.vlog_elab.specs.inside.Walk.{Passed}
use Rattle.vlog_elab.specs.inside.Walks.{step_walk}
use Rattle.vlog_elab.specs.Steps.{Uses}
use Rattle.vlog_elab.proofs.connections.use_parts.Given as goal

abbrev pub invariant-loop-part : goal.invariant-loop-part
invariant-loop-part l = Passed step_walk l.initial.scope (map Uses (take l.part-index l.parts)) l.scope
