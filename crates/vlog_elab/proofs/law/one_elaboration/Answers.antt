use Rattle.vlog_elab.proofs.OneAnswer.{one_answer}
use Rattle.vlog_elab.proofs.SomeAnswer.{some_answer}
use Rattle.vlog_elab.proofs.Staying.{stays_sound}
use Rattle.vlog_elab.proofs.BareTrees.{places_do_not_matter}
use Rattle.vlog_elab.proofs.law.one_elaboration.Goals as goal

pub returns-clause-one : goal.returns-clause-one
returns-clause-one c = one_answer

pub returns-clause-sound : goal.returns-clause-sound
returns-clause-sound c = stays_sound

pub returns-clause-places : goal.returns-clause-places
returns-clause-places c = places_do_not_matter

pub returns-clause-some : goal.returns-clause-some
returns-clause-some c = some_answer
