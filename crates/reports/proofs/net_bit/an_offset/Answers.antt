use Rattle.std.proofs.Common.{sym, ◌∙◌}
use Rattle.edit_rules.proofs.ReadLemmas.{range-allowed}
use Rattle.reports.proofs.net_bit.an_offset.Goals as goal

pub offset_in-offset-requires : goal.offset_in-offset-requires
offset_in-offset-requires c =
    range-allowed c.args.state.now.plain c.requires.good.table.sound c.args.holder c.args.net c.in-Some.range (sym c.net_range.ensures ∙ c.in-Some.is)
