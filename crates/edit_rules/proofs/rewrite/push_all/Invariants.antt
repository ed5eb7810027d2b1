-- What was put in so far is the front of the items.
use Rattle.std.proofs.Common.{◌≡◌, ◌++◌, take}
use Rattle.edit_rules.proofs.rewrite.push_all.Given as goal

abbrev pub invariant-loop-item : goal.invariant-loop-item
invariant-loop-item g l = l.made ≡ l.initial.made ++ take l.item-index l.items
