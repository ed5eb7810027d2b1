-- The modules so far are sound.
use Rattle.std.proofs.Common.{All, take}
use Rattle.flatten_rules.specs.Sound.{IsSoundModule}
use Rattle.flatten_rules.proofs.soundness.are_sound.Given as goal

abbrev pub invariant-loop-holder : goal.invariant-loop-holder
invariant-loop-holder l = All (IsSoundModule l.plain) (take l.holder-index l.holder-items)
