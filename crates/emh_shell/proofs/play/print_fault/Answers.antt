use Rattle.std.proofs.lemmas.Result.{err_from_is_err_and}
use Rattle.emh_shell.proofs.Starting.{Fault-put}
use Rattle.emh_shell.proofs.play.print_fault.Goals as goal

pub returns-in_err-put_all : goal.returns-in_err-put_all
returns-in_err-put_all g c =
    let p = err_from_is_err_and c.from_residual.result c.from_residual.ensures.1 in
    rw (p.1, p.2) (Fault-put c.args.text.now (g.K.Sink.told c.args.out.now) (g.K.Sink.told c.put_all.new.out) c.in_err-put_all.field-0.0 c.in_err-put_all.ensures)
