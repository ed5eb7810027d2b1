use Rattle.std.proofs.Common.{subst}
use Rattle.std.specs.Ordering.{nat_cmp}
use Rattle.timeline.specs.Timeline.{IsLastCount}
use Rattle.timeline.specs.Steps.{undo_swaps}
use Rattle.undo_slots.specs.Slots.{live_rows}
use Rattle.undo_slots.proofs.table.Table.record_len.Goals as goal

pub returns : goal.returns
returns g c = subst (λ s. IsLastCount s.past c.record_len.result) c.self.view_is (c.record_len.ensures nat_cmp (undo_swaps c.self.inside.history.swaps.items (live_rows c.self.inside.slots)))
