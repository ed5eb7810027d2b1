use Rattle.std.proofs.Common.{take}
use Rattle.vlog_elab.specs.inside.Walk.{Passed}
use Rattle.vlog_elab.specs.inside.Walks.{module_walk}
use Rattle.vlog_elab.proofs.modules.add_modules.Given as goal

abbrev pub invariant-loop-m : goal.invariant-loop-m
invariant-loop-m l = Passed (module_walk l.all_leaf) l.initial.known (take l.m-index l.modules) l.known
