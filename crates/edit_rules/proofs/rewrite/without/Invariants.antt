-- What was kept so far is what stays of the front of the list.
use Rattle.std.proofs.Common.{◌≡◌, ◌==◌, not, filter, take}
use Rattle.edit_rules.proofs.rewrite.without.Given as goal

abbrev pub invariant-loop-item : goal.invariant-loop-item
invariant-loop-item g l = l.made ≡ filter (λ item. not (g.T.Numbered.number_of item == l.number)) (take l.item-index l.items)
