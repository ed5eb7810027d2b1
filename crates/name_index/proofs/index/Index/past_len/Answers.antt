use Rattle.std.proofs.Common.{ap, ◌∙◌, length}
use Rattle.timeline.specs.Steps.{undo_swaps}
use Rattle.name_index.specs.Names.{key_cmp, live_names, mentions_at}
use Rattle.name_index.proofs.index.Index.past_len.Goals as goal

pub returns : goal.returns
returns c = c.past_len.ensures key_cmp (mentions_at c.self.inside.names) c.self.invariant (undo_swaps c.self.inside.history.swaps.items (live_names c.self.inside.names)) ∙ ap (λ s. length s.past) c.self.view_is
