-- The items so far rise, and their numbers are below the next one.
use Rattle.std.proofs.Common.{take}
use Rattle.flatten_rules.proofs.Rising.{Rises}
use Rattle.flatten_rules.proofs.numbered.rises.Given as goal

abbrev pub invariant-loop-item : goal.invariant-loop-item
invariant-loop-item g l = Rises g.T.Numbered.number_of (take l.item-index l.items) l.next
