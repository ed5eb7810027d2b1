use Rattle.std.proofs.Common.{sym, ap, ◌∙◌, ◌+◌}
use Rattle.slab.proofs.SlabLemmas.{Updates-with_value}
use Rattle.undo_slots.proofs.SlotLemmas.{get-live_rows, live_rows-updates, ContainsKey-live}
use Rattle.undo_slots.specs.Slots.{value_of}
use Rattle.undo_slots.proofs.slots.SlotsKeptRowsUsize.swap.Goals as goal

pub index_mut-row-requires : goal.index_mut-row-requires
index_mut-row-requires g c = ContainsKey-live c.args.self.now c.args.key c.requires.live

pub returns-clause-swap : goal.returns-clause-swap
returns-clause-swap g c =
    let before = c.replace.ensures.value ∙ sym (get-live_rows c.args.self.now c.args.key ∙ ap value_of c.index_mut-row.ensures.value) in
    λ i. record { key = c.args.key; value = before i }

pub returns-clause-live : goal.returns-clause-live
returns-clause-live g c = rw (← c.replace.ensures.after) (live_rows-updates _ _ c.args.key _ (Updates-with_value c.args.self.now.rows c.args.key (record { value = c.replace.new.dest; mentions = c.index_mut-row.result.now.mentions + 1 }) (ContainsKey-live c.args.self.now c.args.key c.requires.live)))
