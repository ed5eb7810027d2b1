use Rattle.std.proofs.Common.{arith, ◌++◌, [], take, sym, ◌∙◌, ap}
use Rattle.std.proofs.lemmas.Result.{err_from_is_err_and}
use Rattle.vlog_read.specs.declared.tree.TConn.{TConn}
use Rattle.vlog_elab.specs.Steps.{conn_steps}
use Rattle.vlog_elab.specs.Connections.{port_named, ports_named}
use Rattle.vlog_elab.proofs.Walking.{one_more, flat_map-push, more-each, fails-each}
use Rattle.vlog_elab.proofs.connections.walk_conns.Goals as goal

pub returns-in_err-walk_conn : goal.returns-in_err-walk_conn
returns-in_err-walk_conn c =
    let p = err_from_is_err_and c.from_residual.result c.from_residual.ensures.1 in
    rw (p.1, p.2) (fails-each (conn_steps c.args.ports.now c.args.inst.now) [] c.args.conns.now c.loop-number.number c.index-conns-number.result
    (omega arith) c.index-conns-number.is c.loop-number.invariant.walk (rw c.split_at.ensures.front at c.in_err-walk_conn.ensures.walk))

pub loop-number-preserved : goal.loop-number-preserved
loop-number-preserved c = record {
  walk =
      more-each (conn_steps c.args.ports.now c.args.inst.now) [] c.args.conns.now c.loop-number.number c.index-conns-number.result
      (omega arith) c.index-conns-number.is c.loop-number.invariant.walk (rw c.split_at.ensures.front at c.in_ok-walk_conn.ensures.walk);
  seen =
      c.in_ok-walk_conn.ensures.seen
      ∙ ap (λ names. names ++ port_named c.index-conns-number.result.port) c.loop-number.invariant.seen
      ∙ sym (flat_map-push (λ (c : TConn). port_named c.port) (take c.loop-number.number c.args.conns.now) c.index-conns-number.result)
      ∙ ap ports_named (sym (one_more c.args.conns.now c.loop-number.number c.index-conns-number.result (omega arith) c.index-conns-number.is));
}
