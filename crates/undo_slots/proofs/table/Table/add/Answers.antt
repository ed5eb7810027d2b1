use Rattle.std.proofs.Common.{refl, subst, sym, ◌∙◌, Some}
use Rattle.std.specs.Ordering.{nat_cmp}
use Rattle.timeline.specs.History.{IsFresh}
use Rattle.timeline.proofs.TimelineLemmas.{IsFresh-unnamed, same_timeline}
use Rattle.undo_slots.specs.Slots.{nat_order, live_rows, mentions_at, room_in}
use Rattle.undo_slots.proofs.table.Table.add.Goals as goal

pub invariant_of-self : goal.invariant_of-self
invariant_of-self g c = c.note.ensures.kept nat_cmp (mentions_at c.self.inside.slots) _ c.self.invariant c.insert-key.ensures.mentions

pub returns-clause-fresh : goal.returns-clause-fresh
returns-clause-fresh g c = subst (λ s. IsFresh s c.insert-key.result) c.self.view_is (IsFresh-unnamed nat_order (live_rows c.self.inside.slots) (room_in c.self.inside.slots) (mentions_at c.self.inside.slots) c.self.inside.history c.insert-key.result c.self.invariant c.insert-key.ensures.unnamed c.insert-key.ensures.absent)

pub returns-clause-added : goal.returns-clause-added
returns-clause-added g c =
    rw (← c.self.view_is)
    (c.note.ensures.written nat_cmp nat_order (live_rows c.self.inside.slots) (live_rows c.insert-key.new.self) (room_in c.self.inside.slots) (room_in c.insert-key.new.self) (Some c.args.value) (sym c.insert-key.ensures.absent) c.insert-key.ensures.live
    ∙ same_timeline _ _ c.insert-key.ensures.live refl refl refl refl refl c.insert-key.ensures.room refl)
