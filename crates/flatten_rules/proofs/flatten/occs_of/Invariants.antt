use Rattle.std.proofs.Common.{◌≡◌, ◌++◌, map, length}
use Rattle.flatten_rules.specs.Unfolding.{occurrences}
use Rattle.flatten_rules.specs.Fresh.{fresh_occ}
use Rattle.flatten_rules.proofs.flatten.occs_of.Given as goal

-- What is made so far, with what is still to come, is all.
abbrev pub invariant-loop-walk : goal.invariant-loop-walk
invariant-loop-walk l = record {
  plain : l.walk.plain ≡ l.fn.plain;
  top : l.walk.top ≡ l.fn.top;
  all : l.made ++ map fresh_occ l.walk.rest ≡ map fresh_occ (occurrences l.fn.plain l.fn.top);
}

abbrev pub decreases-loop-walk : goal.decreases-loop-walk
decreases-loop-walk l = length l.walk.rest
