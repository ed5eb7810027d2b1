use Rattle.std.proofs.Common.{ap, sym, ◌∙◌}
use Rattle.std.specs.Option.{option_copied}
use Rattle.edit_rules.proofs.TableLemmas.{sound-found}
use Rattle.watch_kit.proofs.sweep.is_left_over.Goals as goal

pub net_of-requires : goal.net_of-requires
net_of-requires c =
    (sound-found c.args.state.now.plain c.args.id c.in-Some.holder.now c.requires.table.sound (ap option_copied (sym c.in-Some.is) ∙ c.module_of.ensures)).nets_rise
