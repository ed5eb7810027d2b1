use Rattle.std.proofs.Common.{◌≡◌, [], take}
use Rattle.flatten_rules.specs.Check.{each_after}
use Rattle.vlog_elab.specs.Steps.{conn_steps}
use Rattle.vlog_elab.specs.Connections.{ports_named}
use Rattle.vlog_elab.specs.inside.Walk.{Passed}
use Rattle.vlog_elab.specs.inside.Walks.{step_walk}
use Rattle.vlog_elab.proofs.connections.walk_conns.Given as goal

abbrev pub invariant-loop-number : goal.invariant-loop-number
invariant-loop-number l = record {
  walk : Passed step_walk l.initial.scope (each_after (conn_steps l.ports l.inst) [] (take l.number l.conns)) l.scope;
  seen : l.seen ≡ ports_named (take l.number l.conns);
}
