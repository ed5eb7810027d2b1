use Rattle.edit_rules.proofs.GoodLaw.{stays_good}
use Rattle.edit_rules.proofs.SurvivalLemmas.{stays_good_in_order}
use Rattle.edit_rules.proofs.laws.each_edit_stays_good.Goals as goal

pub returns-clause-one : goal.returns-clause-one
returns-clause-one c = stays_good

pub returns-clause-all : goal.returns-clause-all
returns-clause-all c = stays_good_in_order
