-- The names of the items so far were put last.
use Rattle.std.proofs.Common.{◌≡◌, ◌++◌, map, take}
use Rattle.flatten_rules.proofs.named.put_new.Given as goal

abbrev pub invariant-loop-item : goal.invariant-loop-item
invariant-loop-item g l = l.pool ≡ l.initial.pool ++ map g.T.Named.name_of (take l.item-index l.items)
