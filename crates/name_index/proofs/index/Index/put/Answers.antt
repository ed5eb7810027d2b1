use Rattle.std.proofs.Common.{refl, ap, sym, ◌∙◌, Some, arith}
use Rattle.std.specs.FinMap as map
use Rattle.timeline.proofs.TimelineLemmas.{few_mentions, same_timeline}
use Rattle.name_index.specs.Names.{key_cmp, key_order, live_names, mentions_at, room_in}
use Rattle.name_index.proofs.index.Index.put.Goals as goal

pub put-requires-clause-few : goal.put-requires-clause-few
put-requires-clause-few c = few_mentions key_cmp (mentions_at c.self.inside.names) c.self.inside.history (c.args.«module», c.args.name) c.self.invariant (omega (arith, c.requires.spare, ap (λ s. s.spare_writes) c.self.view_is))

pub invariant_of-self : goal.invariant_of-self
invariant_of-self c = c.note.ensures.kept key_cmp (mentions_at c.self.inside.names) _ c.self.invariant c.put.ensures.mentions

pub returns-clause-added : goal.returns-clause-added
returns-clause-added c =
    let absent = ap (λ s. map.get s.now (c.args.«module», c.args.name)) c.self.view_is ∙ c.requires.absent in
    rw (← c.self.view_is)
    (c.note.ensures.written key_cmp key_order (live_names c.self.inside.names) (live_names c.put.new.self) (room_in c.self.inside.names) (room_in c.put.new.self) (Some c.args.key) (sym absent) c.put.ensures.live
    ∙ same_timeline _ _ c.put.ensures.live refl refl refl refl refl refl refl)
