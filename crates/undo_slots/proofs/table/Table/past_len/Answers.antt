use Rattle.std.proofs.Common.{ap, ◌∙◌, length}
use Rattle.std.specs.Ordering.{nat_cmp}
use Rattle.timeline.specs.Steps.{undo_swaps}
use Rattle.undo_slots.specs.Slots.{live_rows, mentions_at}
use Rattle.undo_slots.proofs.table.Table.past_len.Goals as goal

pub returns : goal.returns
returns g c = c.past_len.ensures nat_cmp (mentions_at c.self.inside.slots) c.self.invariant (undo_swaps c.self.inside.history.swaps.items (live_rows c.self.inside.slots)) ∙ ap (λ s. length s.past) c.self.view_is
