use Rattle.session_rules.proofs.Leading as law
use Rattle.session_rules.proofs.laws.journals_lead.Goals as goal

pub returns-clause-command : goal.returns-clause-command
returns-clause-command c = law.commands-lead

pub returns-clause-any : goal.returns-clause-any
returns-clause-any c = law.reactions-lead
