use Rattle.std.proofs.lemmas.Result.{err_from_is_err_and}
use Rattle.vlog_elab.proofs.Rounds.{declarations-fail, declarations-pass}
use Rattle.vlog_elab.proofs.elaborate.declared.Goals as goal

pub returns-in_err-add_modules : goal.returns-in_err-add_modules
returns-in_err-add_modules c =
    let p = err_from_is_err_and c.from_residual-in_err-add_modules.result c.from_residual-in_err-add_modules.ensures.1 in
    rw (p.1, p.2) (declarations-fail c.args.table.now c.args.all_leaf c.in_ok-known.known c.args.modules.now c.in_err-add_modules.field-0.0 c.in_ok-known.ensures c.in_err-add_modules.ensures)

pub returns : goal.returns
returns c = declarations-pass c.args.table.now c.args.all_leaf c.in_ok-known.known c.add_modules.new.known c.args.modules.now c.in_ok-known.ensures c.in_ok-add_modules.ensures
