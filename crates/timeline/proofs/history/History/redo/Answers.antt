use Rattle.std.proofs.Common.{arith}
use Rattle.timeline.proofs.TimelineLemmas.{marks_in_le, marks-turned}
use Rattle.timeline.proofs.history.History.redo.Goals as goal

pub overflow_add-self : goal.overflow_add-self
overflow_add-self g c =
    let turned = marks-turned c.args.self.now.future.items c.args.self.now.past.items c.travel.new.from.items c.travel.new.to.items (g.R.KeptRows.live c.args.rows.now) (g.R.KeptRows.live c.travel.new.rows) c.travel.ensures.moves in
    omega (arith, turned.1, c.requires.kept.past_counted, marks_in_le c.travel.new.to.items, c.travel.ensures.count, c.requires.kept.small)

pub returns-clause-kept : goal.returns-clause-kept
returns-clause-kept g c =
    let kept = c.requires.kept in
    let turned = marks-turned c.args.self.now.future.items c.args.self.now.past.items c.travel.new.from.items c.travel.new.to.items _ _ c.travel.ensures.moves in
    record {
      counts = λ k. omega (arith, kept.counts k, c.travel.ensures.mentions k, c.travel.ensures.steps k);
      past_fits = omega (arith, kept.past_fits);
      future_fits = omega (arith, kept.future_fits);
      swaps_fit = kept.swaps_fit;
      small = omega (arith, kept.small);
      closed = kept.closed;
      past_counted = omega (arith, turned.1, kept.past_counted);
      future_counted = omega (arith, turned.0, kept.future_counted);
      past_begins = c.travel.ensures.to_begins;
      future_begins = c.travel.ensures.from_begins;
    }
