use Rattle.name_index.proofs.NameLemmas.{held-live}
use Rattle.name_index.proofs.names.NamesKeptRowsTuple2U32UsizeU32.swap.Goals as goal

pub write-before-requires-clause-named : goal.write-before-requires-clause-named
write-before-requires-clause-named c = held-live c.args.self.now c.args.key c.requires.live
