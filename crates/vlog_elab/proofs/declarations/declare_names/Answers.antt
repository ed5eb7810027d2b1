use Rattle.std.proofs.Common.{arith}
use Rattle.std.proofs.lemmas.Result.{err_from_is_err_and}
use Rattle.vlog_elab.specs.Interfaces.{name_place}
use Rattle.vlog_elab.specs.Text.{range_of}
use Rattle.vlog_elab.proofs.Walking.{more-map, fails-map}
use Rattle.vlog_elab.proofs.declarations.declare_names.Goals as goal

pub returns-in_err-declare_name : goal.returns-in_err-declare_name
returns-in_err-declare_name c =
    let p = err_from_is_err_and c.from_residual.result c.from_residual.ensures.1 in
    rw (p.1, p.2) (fails-map (name_place c.args.decl.now.dir (range_of c.args.decl.now)) c.args.names.now c.loop-name.name-index c.name-item.result (omega arith) c.name-item.is c.loop-name.invariant c.in_err-declare_name.ensures)

pub loop-name-preserved : goal.loop-name-preserved
loop-name-preserved c = more-map (name_place c.args.decl.now.dir (range_of c.args.decl.now)) c.args.names.now c.loop-name.name-index c.name-item.result (omega arith) c.name-item.is c.loop-name.invariant c.in_ok-declare_name.ensures
