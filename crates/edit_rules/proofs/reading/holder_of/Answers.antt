use Rattle.std.proofs.Common.{ap, sym, ◌∙◌}
use Rattle.std.specs.Option.{option_copied}
use Rattle.edit_rules.proofs.TableLemmas.{sound-found}
use Rattle.edit_rules.proofs.reading.holder_of.Goals as goal

pub returns-clause-sound : goal.returns-clause-sound
returns-clause-sound c =
    sound-found c.args.plain.now c.args.id c.unwrap.result.now c.requires.sound (ap option_copied (sym c.unwrap.ensures) ∙ c.module_of.ensures)
