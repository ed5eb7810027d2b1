use Rattle.std.proofs.Common.{◌≡◌, ◌++◌, map, length}
use Rattle.std.specs.List.{filter}
use Rattle.flatten_rules.specs.Lookup.{module_of}
use Rattle.flatten_rules.specs.Unfolding.{Occurrence}
use Rattle.flatten_rules.specs.Domains.{is_leaf, block_instances}
use Rattle.flatten_rules.specs.FlatLines.{inst_line}
use Rattle.flatten_rules.proofs.lines.push_insts.Given as goal

-- The lines so far, with those that are still to come, are all.
abbrev pub invariant-loop-walk : goal.invariant-loop-walk
invariant-loop-walk l = record {
  plain : l.walk.plain ≡ l.fn.plain;
  top : l.walk.top ≡ l.fn.top;
  all : l.lines.items ++ map (inst_line l.fn.plain l.fn.top) (filter (λ (o : Occurrence). is_leaf (module_of l.fn.plain o.1)) l.walk.rest) ≡ l.initial.lines.items ++ map (inst_line l.fn.plain l.fn.top) (block_instances l.fn.plain l.fn.top);
}

abbrev pub decreases-loop-walk : goal.decreases-loop-walk
decreases-loop-walk l = length l.walk.rest
