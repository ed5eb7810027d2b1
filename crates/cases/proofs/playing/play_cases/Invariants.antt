use Rattle.std.proofs.Common.{length}
use Rattle.cases.proofs.playing.play_cases.Given as goal

abbrev pub decreases-loop-section : goal.decreases-loop-section
decreases-loop-section g l = length l.sections.rest.now
