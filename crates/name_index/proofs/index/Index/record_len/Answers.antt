use Rattle.std.proofs.Common.{subst}
use Rattle.timeline.specs.Timeline.{IsLastCount}
use Rattle.timeline.specs.Steps.{undo_swaps}
use Rattle.name_index.specs.Names.{key_cmp, live_names}
use Rattle.name_index.proofs.index.Index.record_len.Goals as goal

pub returns : goal.returns
returns c = subst (λ s. IsLastCount s.past c.record_len.result) c.self.view_is (c.record_len.ensures key_cmp (undo_swaps c.self.inside.history.swaps.items (live_names c.self.inside.names)))
