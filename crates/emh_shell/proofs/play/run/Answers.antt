use Rattle.std.proofs.Common.{refl}
use Rattle.emh_shell.proofs.Completing.{complete-fetch}
use Rattle.emh_shell.proofs.play.run.Goals as goal

pub returns-in-Err-Fetch-clause-complete : goal.returns-in-Err-Fetch-clause-complete
returns-in-Err-Fetch-clause-complete g c = λ quiet.
    complete-fetch _ _ (g.F.Shelf.told c.args.shelf.now) (g.F.Shelf.told c.run_words.new.shelf) (g.K.Sink.told c.args.out.now) (g.K.Sink.told c.run_words.new.out) 3 refl quiet (rw c.in-Err-Fetch.field-0-is at c.in-Err-Fetch.ensures)
