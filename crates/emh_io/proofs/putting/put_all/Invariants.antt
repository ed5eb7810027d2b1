use Rattle.std.proofs.Common.{◌≡◌, ◌≤◌, ◌-◌, length, take}
use Rattle.emh_io.specs.Put.{gains}
use Rattle.emh_io.proofs.putting.put_all.Given as goal

-- What was written is the front of the text.
abbrev pub invariant-loop-at : goal.invariant-loop-at
invariant-loop-at g l = record {
  within : l.at ≤ length l.text;
  written : (g.K.Sink.told l.out).written ≡ gains (g.K.Sink.told l.initial.out).written (take l.at l.text);
  faults : (g.K.Sink.told l.out).faults ≡ (g.K.Sink.told l.initial.out).faults;
}

abbrev pub decreases-loop-at : goal.decreases-loop-at
decreases-loop-at g l = length l.text - l.at
