use Rattle.std.proofs.Common.{ap, ◌∙◌}
use Rattle.std.specs.FinMap as map
use Rattle.std.specs.Ordering.{nat_cmp}
use Rattle.timeline.specs.History.{timeline_of}
use Rattle.undo_slots.specs.Slots.{mentions_at, room_in}
use Rattle.undo_slots.proofs.table.Table.new.Goals as goal

pub invariant_of-result : goal.invariant_of-result
invariant_of-result g c = c.new-2.ensures.kept nat_cmp (mentions_at c.new.result) c.new.ensures.mentions

pub returns : goal.returns
returns g c =
    ap (λ m. timeline_of m (room_in c.new.result) c.new-2.result) c.new.ensures.live
    ∙ ap (λ n. timeline_of map.empty n c.new-2.result) c.new.ensures.room
    ∙ c.new-2.ensures.first nat_cmp map.empty
