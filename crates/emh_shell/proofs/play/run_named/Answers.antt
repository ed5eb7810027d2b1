use Rattle.std.proofs.Common.{inl, inr, refl}
use Rattle.emh_shell.proofs.Starting.{Cut-nothing, Whole-script, Ends-fault, Ends-after, Faulty-ask, Gives-fetched, Gives-long, Lacks-missing}
use Rattle.emh_shell.proofs.play.run_named.Goals as goal

pub returns-in-Err-NoMemory : goal.returns-in-Err-NoMemory
returns-in-Err-NoMemory g c = λ words asks. Cut-nothing _ _ _ _ _ c.in-Err-NoMemory.ensures.kept

pub returns-in-Err-Failed : goal.returns-in-Err-Failed
returns-in-Err-Failed g c = λ words asks.
    Whole-script _ words _ (g.F.Shelf.told c.args.shelf.now) (g.F.Shelf.told c.fetch.new.self) (g.K.Sink.told c.args.out.now) asks c.in-Err-Failed.ensures.kept (inr (rw c.in-Err-Failed.field-0-is at c.in-Err-Failed.ensures.cause))

pub returns-in-Err-Missing : goal.returns-in-Err-Missing
returns-in-Err-Missing g c = λ words asks.
    Whole-script _ words _ (g.F.Shelf.told c.args.shelf.now) (g.F.Shelf.told c.fetch.new.self) (g.K.Sink.told c.args.out.now) asks c.in-Err-Missing.ensures.kept (inl (Lacks-missing (g.F.Shelf.told c.args.shelf.now).holds c.args.name.now (g.F.Shelf.told c.args.shelf.now).taken (g.F.Shelf.told c.fetch.new.self).taken (rw c.in-Err-Missing.field-0-is at c.in-Err-Missing.ensures.told) (rw c.in-Err-Missing.field-0-is at c.in-Err-Missing.ensures.untold)))

pub returns-in-Ok : goal.returns-in-Ok
returns-in-Ok g c = λ words asks.
    let kept = c.in-Ok.ensures in
    Ends-after _ words (g.F.Shelf.told c.args.shelf.now) (g.F.Shelf.told c.fetch.new.self) (g.F.Shelf.told c.run_script.new.shelf) (g.K.Sink.told c.args.out.now) (g.K.Sink.told c.run_script.new.out) c.run_script.result kept.kept (kept.cause.0, kept.stores) (c.run_script.ensures words _ asks refl (rw (kept.kept, c.as_slice.ensures) (Gives-fetched (g.F.Shelf.told c.args.shelf.now).holds c.args.name.now c.in-Ok.bytes kept.told)))

pub returns-in-Err-TooLong : goal.returns-in-Err-TooLong
returns-in-Err-TooLong g c = λ words asks.
    let kept = c.in-Err-TooLong.ensures in
    let cause = rw c.in-Err-TooLong.field-0-is at kept.cause in
    Ends-fault _ words (g.F.Shelf.told c.args.shelf.now) (g.F.Shelf.told c.fetch.new.self) (g.K.Sink.told c.args.out.now) (g.K.Sink.told c.print_fault.new.out) c.as_slice-in-Err-TooLong.result.now c.print_fault.result (Faulty-ask (g.F.Shelf.told c.args.shelf.now).holds words _ _ asks (inl (Gives-long (g.F.Shelf.told c.args.shelf.now).holds c.args.name.now (rw c.in-Err-TooLong.field-0-is at kept.told), c.as_slice-in-Err-TooLong.ensures))) kept.kept (cause.0, kept.stores) c.print_fault.ensures
