use Rattle.std.proofs.Common.{refl, rules, map, string_bytes}
use Rattle.std.proofs.lemmas.Result.{err_from_is_err_and}
use Rattle.emh_shell.proofs.Starting.{Cut-nothing, Ends-fault, Faulty-words}
use Rattle.emh_shell.proofs.play.run_words.Goals as goal

pub returns-in-None : goal.returns-in-None
returns-in-None g c =
    Ends-fault _ (map string_bytes c.args.words.now) (g.F.Shelf.told c.args.shelf.now) (g.F.Shelf.told c.args.shelf.now) (g.K.Sink.told c.args.out.now) (g.K.Sink.told c.print_fault.new.out) c.as_slice.result.now c.print_fault.result (rw c.as_slice.ensures (Faulty-words (g.F.Shelf.told c.args.shelf.now).holds (map string_bytes c.args.words.now) (search rules))) refl (refl, refl) c.print_fault.ensures

pub returns-in_err-ask : goal.returns-in_err-ask
returns-in_err-ask g c =
    let p = err_from_is_err_and c.from_residual.result c.from_residual.ensures.1 in
    rw (p.1, p.2)
    (Cut-nothing _ _ (g.F.Shelf.told c.args.shelf.now) (g.F.Shelf.told c.args.shelf.now) (g.K.Sink.told c.args.out.now) refl)
