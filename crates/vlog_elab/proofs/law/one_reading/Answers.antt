use Rattle.vlog_elab.proofs.OneReading.{one_reading, some_reading, reading_sound}
use Rattle.vlog_elab.proofs.law.one_reading.Goals as goal

pub returns-clause-some : goal.returns-clause-some
returns-clause-some c = some_reading

pub returns-clause-one : goal.returns-clause-one
returns-clause-one c = one_reading

pub returns-clause-sound : goal.returns-clause-sound
returns-clause-sound c = reading_sound
