use Rattle.std.proofs.Common.{◌≡◌, ◌++◌, take, length}
use Rattle.std.specs.List.{flat_map, filter}
use Rattle.flatten_rules.specs.Lookup.{module_of}
use Rattle.flatten_rules.specs.Unfolding.{Occurrence}
use Rattle.flatten_rules.specs.Domains.{is_leaf, block_instances}
use Rattle.reports.specs.Block.{inst_line}
use Rattle.reports.proofs.block.push_insts.Given as goal

-- The lines so far and those of the leaves that are still to come are all.
abbrev pub invariant-loop-walk : goal.invariant-loop-walk
invariant-loop-walk l = record {
  plain : l.walk.plain ≡ l.fn.plain;
  top : l.walk.top ≡ l.fn.top;
  kept : take (length l.initial.out) l.out ≡ l.initial.out;
  text : l.out ++ flat_map (inst_line l.fn.plain l.fn.top l.fn.places) (filter (λ (o : Occurrence). is_leaf (module_of l.fn.plain o.1)) l.walk.rest)
      ≡ l.initial.out ++ flat_map (inst_line l.fn.plain l.fn.top l.fn.places) (block_instances l.fn.plain l.fn.top);
}

abbrev pub decreases-loop-walk : goal.decreases-loop-walk
decreases-loop-walk l = length l.walk.rest
