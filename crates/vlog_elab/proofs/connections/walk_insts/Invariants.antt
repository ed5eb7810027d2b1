use Rattle.std.proofs.Common.{take}
use Rattle.std.specs.List.{flat_map}
use Rattle.vlog_elab.specs.inside.Walk.{Passed}
use Rattle.vlog_elab.specs.inside.Walks.{step_walk}
use Rattle.vlog_elab.specs.Steps.{inst_steps}
use Rattle.vlog_elab.specs.Named.{named}
use Rattle.vlog_elab.proofs.connections.walk_insts.Given as goal

abbrev pub invariant-loop-inst : goal.invariant-loop-inst
invariant-loop-inst l = Passed step_walk l.initial.scope (flat_map (inst_steps (named l.interfaces l.master.name) l.master) (take l.inst-index l.insts)) l.scope
