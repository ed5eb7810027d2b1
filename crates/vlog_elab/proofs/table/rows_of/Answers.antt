use Rattle.std.proofs.Common.{arith}
use Rattle.std.proofs.lemmas.Result.{err_from_is_err_and}
use Rattle.vlog_elab.specs.Connections.{inner_checks}
use Rattle.vlog_elab.proofs.Adding.{grown}
use Rattle.vlog_elab.proofs.Walking.{checks-more, checks-fail}
use Rattle.vlog_elab.proofs.table.rows_of.Goals as goal

pub returns-in_err-nets-clause-checks : goal.returns-in_err-nets-clause-checks
returns-in_err-nets-clause-checks c =
    let p = err_from_is_err_and c.from_residual-in_err-nets.result c.from_residual-in_err-nets.ensures.1 in
    rw (p.1, p.2) (checks-fail (inner_checks c.args.masters.now) c.args.modules.now c.loop-m.m-index c.m-item.result c.in_err-nets.field-0.0
    (omega arith) c.m-item.is c.loop-m.invariant.checks c.in_err-nets.ensures.checks)

pub loop-m-preserved : goal.loop-m-preserved
loop-m-preserved c = record {
  checks =
      checks-more (inner_checks c.args.masters.now) c.args.modules.now c.loop-m.m-index c.m-item.result
      (omega arith) c.m-item.is c.loop-m.invariant.checks c.in_ok-nets.ensures.checks;
  rows = λ all_leaf faces_are.
      grown c.args.table.now all_leaf c.args.modules.now c.args.masters.now c.loop-m.m-index c.m-item.result c.loop-m.rows c.add_row.new.rows
      (omega arith) c.m-item.is faces_are (c.loop-m.invariant.rows all_leaf faces_are) c.in_ok-add_row.ensures.again c.in_ok-add_row.ensures.new;
  counters = λ sound. c.in_ok-add_row.ensures.counters (c.loop-m.invariant.counters sound);
}
