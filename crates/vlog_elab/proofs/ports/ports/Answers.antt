use Rattle.std.proofs.lemmas.Result.{err_from_is_err_and}
use Rattle.vlog_elab.proofs.Declaring.{names-fail, places-fail, ports-give}
use Rattle.vlog_elab.proofs.ports.ports.Goals as goal

pub returns-in_err-names : goal.returns-in_err-names
returns-in_err-names c =
    let p = err_from_is_err_and c.from_residual.result c.from_residual.ensures.1 in
    rw (p.1, p.2) (names-fail c.args.leaf c.args.m.now c.in_err-names.field-0.0 c.in_err-names.ensures)

pub returns-in_err-said : goal.returns-in_err-said
returns-in_err-said c =
    let p = err_from_is_err_and c.from_residual-in_err-said.result c.from_residual-in_err-said.ensures.1 in
    rw (p.1, p.2) (places-fail c.args.leaf c.args.m.now c.in_ok-names.names c.in_err-said.field-0.0 c.in_ok-names.ensures c.in_err-said.ensures)

pub returns : goal.returns
returns c = ports-give c.args.leaf c.args.m.now c.in_ok-names.names c.in_ok-said.said c.ports_of.result c.in_ok-names.ensures c.in_ok-said.ensures c.ports_of.ensures
