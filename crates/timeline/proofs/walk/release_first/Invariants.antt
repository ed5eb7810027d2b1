use Rattle.std.proofs.Common.{◌≡◌, ◌+◌, ◌≤◌}
use Rattle.std.specs.VecDeque.{deque_len, deque_capacity}
use Rattle.std.specs.FinMap.{FinMap}
use Rattle.timeline.specs.Steps.{steps_of, moments_of}
use Rattle.timeline.proofs.walk.release_first.Given as goal

abbrev pub invariant-loop-key : goal.invariant-loop-key
invariant-loop-key g l = record {
  live : g.R.KeptRows.live l.rows ≡ g.R.KeptRows.live l.initial.rows;
  mentions : (k : g.row.K.Denot) → g.R.KeptRows.mentions l.rows k + steps_of g.R.KeptRows.order k l.initial.steps.items ≡ g.R.KeptRows.mentions l.initial.rows k + steps_of g.R.KeptRows.order k l.steps.items;
  moments : (m : FinMap g.R.KeptRows.order g.row.V.Denot) → moments_of l.steps.items m ≡ moments_of l.initial.steps.items m;
  left : (k : g.row.K.Denot) → steps_of g.R.KeptRows.order k l.steps.items ≤ steps_of g.R.KeptRows.order k l.initial.steps.items;
  count : deque_len l.steps ≤ deque_len l.initial.steps;
  room : g.R.KeptRows.room l.initial.rows ≤ g.R.KeptRows.room l.rows;
  steps_capacity : deque_capacity l.steps ≡ deque_capacity l.initial.steps;
}

abbrev pub decreases-loop-key : goal.decreases-loop-key
decreases-loop-key g l = deque_len l.steps
