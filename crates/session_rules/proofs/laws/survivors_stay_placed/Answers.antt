use Rattle.session_rules.proofs.Placing as law
use Rattle.session_rules.proofs.laws.survivors_stay_placed.Goals as goal

pub returns : goal.returns
returns c = law.survivors-stay_placed
