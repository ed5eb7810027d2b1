use Rattle.edit_rules.proofs.SurvivalLemmas as law
use Rattle.edit_rules.proofs.laws.survivors_stay_placed.Goals as goal

pub returns-clause-one : goal.returns-clause-one
returns-clause-one c = law.stay_placed

pub returns-clause-only : goal.returns-clause-only
returns-clause-only c = law.only_survivors

pub returns-clause-all : goal.returns-clause-all
returns-clause-all c = law.stay_placed_in_order
