use Rattle.session_rules.proofs.Placing as law
use Rattle.session_rules.proofs.laws.reactions_stay_good.Goals as goal

pub returns-clause-journal : goal.returns-clause-journal
returns-clause-journal c = law.journals-stay_good

pub returns-clause-command : goal.returns-clause-command
returns-clause-command c = law.commands-stay_good
