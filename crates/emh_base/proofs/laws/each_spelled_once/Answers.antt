use Rattle.emh_base.proofs.SpellLemmas.{spell_injective}
use Rattle.emh_base.proofs.laws.each_spelled_once.Goals as goal

pub returns : goal.returns
returns c = spell_injective
