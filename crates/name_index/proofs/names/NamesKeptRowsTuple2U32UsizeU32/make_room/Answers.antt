use Rattle.name_index.proofs.NameLemmas.{live_names-entries}
use Rattle.name_index.proofs.names.NamesKeptRowsTuple2U32UsizeU32.make_room.Goals as goal

pub returns-in_err-reserve-clause-live : goal.returns-in_err-reserve-clause-live
returns-in_err-reserve-clause-live c = live_names-entries c.args.self.now _ c.reserve.ensures.entries

pub returns-clause-live : goal.returns-clause-live
returns-clause-live c = live_names-entries c.args.self.now _ c.reserve.ensures.entries
