use Rattle.std.proofs.Common.{ap}
use Rattle.undo_slots.proofs.SlotLemmas.{live_rows-slots}
use Rattle.undo_slots.proofs.slots.SlotsKeptRowsUsize.make_room.Goals as goal

pub returns-in_err-reserve-clause-live : goal.returns-in_err-reserve-clause-live
returns-in_err-reserve-clause-live g c = live_rows-slots c.args.self.now _ (ap (λ s. s.slots) c.reserve.ensures.rest_kept)

pub returns-clause-live : goal.returns-clause-live
returns-clause-live g c = live_rows-slots c.args.self.now _ (ap (λ s. s.slots) c.reserve.ensures.rest_kept)
