use Rattle.std.proofs.Common.{sym}
use Rattle.flatten_rules.specs.inside.Steps.{AreSteps}
use Rattle.flatten_rules.proofs.walk.way.Way.new.Goals as goal

pub invariant_of-result : goal.invariant_of-result
unfolding AreSteps
invariant_of-result c = record {
  sound = c.requires.sound;
  top_is = sym c.in-Some.ensures;
  places = c.in_ok-ports.ensures;
  lead = rw c.new.ensures.items c.new-in-Some.ensures;
}
