use Rattle.std.proofs.Common.{◌≡◌, ◌++◌, map, length}
use Rattle.std.specs.List.{filter}
use Rattle.flatten_rules.specs.Lookup.{module_of}
use Rattle.flatten_rules.specs.Unfolding.{Occurrence}
use Rattle.flatten_rules.specs.Domains.{is_leaf, block_instances}
use Rattle.flatten_rules.specs.Fresh.{fresh_inst}
use Rattle.flatten_rules.proofs.flatten.insts_of.Given as goal

-- What is made so far, with what is still to come, is all.
abbrev pub invariant-loop-walk : goal.invariant-loop-walk
invariant-loop-walk l = record {
  plain : l.walk.plain ≡ l.fn.plain;
  top : l.walk.top ≡ l.fn.top;
  all : l.made ++ map (fresh_inst l.fn.places) (filter (λ (o : Occurrence). is_leaf (module_of l.fn.plain o.1)) l.walk.rest) ≡ map (fresh_inst l.fn.places) (block_instances l.fn.plain l.fn.top);
}

abbrev pub decreases-loop-walk : goal.decreases-loop-walk
decreases-loop-walk l = length l.walk.rest
