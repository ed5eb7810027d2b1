use Rattle.std.proofs.Common.{refl, ap, arith, ◌+◌, false}
use Rattle.timeline.specs.History.{marks}
use Rattle.timeline.proofs.TimelineLemmas.{marks_in_le, IsKept-commit, timeline-commit}
use Rattle.timeline.proofs.history.History.commit.Goals as goal

pub overflow_add-self : goal.overflow_add-self
overflow_add-self g c = omega (arith, c.requires.kept.past_counted, marks_in_le c.args.self.now.past.items, c.requires.kept.small, ap marks c.requires.open)

pub returns-clause-kept : goal.returns-clause-kept
returns-clause-kept g c = IsKept-commit g.R.KeptRows.order _ _ c.args.self.now _ c.requires.kept c.requires.open c.seal.ensures.past c.seal.ensures.swaps c.release_all.ensures.steps c.release_all.ensures.mentions c.seal.ensures.past_capacity c.seal.ensures.swaps_capacity c.release_all.ensures.steps_capacity refl refl refl refl

pub returns-clause-committed : goal.returns-clause-committed
returns-clause-committed g c = timeline-commit (g.R.KeptRows.live c.args.rows.now) _ (g.R.KeptRows.room c.args.rows.now) _ c.args.self.now (record { past = c.seal.new.past; swaps = c.seal.new.swaps; future = c.release_all.new.steps; past_len = c.args.self.now.past_len + 1; future_len = 0; is_open = false; spare_writes = c.args.self.now.spare_writes }) c.seal.ensures.past c.seal.ensures.swaps c.release_all.ensures.steps c.release_all.ensures.live refl refl
