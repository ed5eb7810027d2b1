use Rattle.std.proofs.lemmas.Result.{err_from_is_err_and}
use Rattle.vlog_elab.proofs.Declaring.{module-fails, module-gives}
use Rattle.vlog_elab.proofs.modules.add_module.Goals as goal

pub returns-in_err-ports : goal.returns-in_err-ports
returns-in_err-ports c =
    let p = err_from_is_err_and c.from_residual-in_err-ports.result c.from_residual-in_err-ports.ensures.1 in
    rw (p.1, p.2) (module-fails c.args.all_leaf c.args.known.now c.args.m.now c.in_err-ports.field-0.0
    (rw c.is_leaf-leaf.ensures at c.in_ok-check_name.ensures) (rw c.is_leaf-leaf.ensures at c.in_err-ports.ensures))

pub returns : goal.returns
returns c =
    module-gives c.args.all_leaf c.args.known.now c.enter.new.known c.args.m.now c.in_ok-ports.ports c.enter.result
    (rw c.is_leaf-leaf.ensures at c.in_ok-check_name.ensures) (rw c.is_leaf-leaf.ensures at c.in_ok-ports.ensures.0) c.in_ok-ports.ensures.1
    c.enter.ensures.checks (rw c.is_leaf-leaf.ensures at c.enter.ensures.after)
