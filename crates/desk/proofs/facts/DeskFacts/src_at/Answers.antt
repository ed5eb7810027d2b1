use Rattle.std.proofs.Common.{◌<◌, sym, subst}
use Rattle.flatten_rules.specs.Lookup.{width_of}
use Rattle.edit_rules.specs.Readers.{net_in, inst_in, master_id}
use Rattle.desk.specs.Desk.{DeskView}
use Rattle.desk.proofs.facts.DeskFacts.src_at.Goals as goal

pub src_at-requires-clause-within : goal.src_at-requires-clause-within
src_at-requires-clause-within c =
    let P : DeskView → Type 0 = λ d. c.args.offset < width_of (net_in d.state.plain
    (master_id (inst_in d.state.plain c.args.id c.args.inst)) c.args.port) in
    subst P (sym c.self.view_is) c.requires.within
