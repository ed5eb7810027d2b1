use Rattle.std.proofs.Common.{◌≡◌, ◌+◌, ◌≤◌, vec_len, vec_capacity}
use Rattle.timeline.specs.Steps.{undo_swaps, swaps_of}
use Rattle.timeline.proofs.walk.rewind.Given as goal

abbrev pub invariant-loop-swap : goal.invariant-loop-swap
invariant-loop-swap g l = record {
  live : undo_swaps l.swaps.items (g.R.KeptRows.live l.rows) ≡ undo_swaps l.initial.swaps.items (g.R.KeptRows.live l.initial.rows);
  mentions : (k : g.row.K.Denot) → g.R.KeptRows.mentions l.rows k + swaps_of g.R.KeptRows.order k l.initial.swaps.items ≡ g.R.KeptRows.mentions l.initial.rows k + swaps_of g.R.KeptRows.order k l.swaps.items;
  room : g.R.KeptRows.room l.initial.rows ≤ g.R.KeptRows.room l.rows;
  swaps_capacity : vec_capacity l.swaps ≡ vec_capacity l.initial.swaps;
}

abbrev pub decreases-loop-swap : goal.decreases-loop-swap
decreases-loop-swap g l = vec_len l.swaps
