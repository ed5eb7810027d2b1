use Rattle.std.proofs.Common.{◌∙◌}
use Rattle.std.proofs.lemmas.Result.{err_from_is_err_and}
use Rattle.emh_io.proofs.GainsLemmas.{gains-more, rest-within, stopped}
use Rattle.emh_io.proofs.putting.put_all.Goals as goal

pub loop-at-preserved : goal.loop-at-preserved
loop-at-preserved g c =
    let puts = c.in_ok-at.ensures.puts in
    record {
      within = rest-within c.args.text.now c.loop-at.at c.in_ok-at.field-0 c.loop-at.invariant.within puts.0;
      written = gains-more (g.K.Sink.told c.args.out.now).written (g.K.Sink.told c.loop-at.out).written (g.K.Sink.told c.put.new.self).written c.args.text.now c.loop-at.at c.in_ok-at.field-0 c.loop-at.invariant.written puts.2;
      faults = c.in_ok-at.ensures.cause ∙ c.loop-at.invariant.faults;
    }

pub returns-in_err-at : goal.returns-in_err-at
returns-in_err-at g c =
    let p = err_from_is_err_and c.from_residual.result c.from_residual.ensures.1 in
    rw (p.1, p.2)
    (stopped c.args.text.now c.loop-at.at (g.K.Sink.told c.args.out.now) (g.K.Sink.told c.loop-at.out) (g.K.Sink.told c.put.new.self) c.in_err-at.field-0.0
    c.loop-at.invariant.written c.loop-at.invariant.faults c.in_err-at.ensures.puts c.in_err-at.ensures.cause)
