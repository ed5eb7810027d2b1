use Rattle.std.proofs.Common.{ap, ◌∙◌}
use Rattle.std.specs.FinMap as map
use Rattle.timeline.specs.Timeline.{Timeline}
use Rattle.timeline.specs.History.{timeline_of}
use Rattle.name_index.specs.Names.{NameMap, key_cmp, mentions_at, room_in}
use Rattle.name_index.proofs.index.Index.new.Goals as goal

pub invariant_of-result : goal.invariant_of-result
invariant_of-result c = c.new-2.ensures.kept key_cmp (mentions_at c.new.result) c.new.ensures.mentions

pub returns : goal.returns
returns c =
    ap (λ m. timeline_of m (room_in c.new.result) c.new-2.result) c.new.ensures.live
    ∙ ap (λ (s : Timeline NameMap). record s { spare_rows = room_in c.new.result }) (c.new-2.ensures.first key_cmp map.empty)
