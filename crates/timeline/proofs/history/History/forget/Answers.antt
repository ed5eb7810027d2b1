use Rattle.std.proofs.Common.{arith}
use Rattle.timeline.proofs.TimelineLemmas.{marks-forgotten}
use Rattle.timeline.proofs.history.History.forget.Goals as goal

pub returns-clause-kept : goal.returns-clause-kept
returns-clause-kept g c =
    let kept = c.requires.kept in
    let live = g.R.KeptRows.live c.args.rows.now in
    record {
      counts = λ k. omega (arith, kept.counts k, c.release_first.ensures.mentions k);
      past_fits = omega (arith, kept.past_fits);
      future_fits = omega (arith, kept.future_fits);
      swaps_fit = kept.swaps_fit;
      small = omega (arith, kept.small);
      closed = kept.closed;
      past_counted = omega (arith, kept.past_counted, marks-forgotten c.args.self.now.past.items c.release_first.new.steps.items live (c.release_first.ensures.forgotten live));
      future_counted = kept.future_counted;
      past_begins = c.release_first.ensures.begins;
      future_begins = kept.future_begins;
    }
