-- What was changed so far is the front of the list, changed.
use Rattle.std.proofs.Common.{◌≡◌, map, take}
use Rattle.edit_rules.proofs.rewrite.each.Given as goal

abbrev pub invariant-loop-item : goal.invariant-loop-item
invariant-loop-item g l = l.made ≡ map (g.R.Rewrite.becomes l.change) (take l.item-index l.items)
