use Rattle.std.proofs.Common.{◌≡◌, ◌++◌, take, length}
use Rattle.std.specs.List.{flat_map, filter}
use Rattle.reports.specs.Where.{path_line, is_of, where_text}
use Rattle.reports.proofs.whereabouts.push_whereabouts.Given as goal

-- The lines so far and those of the occurrences that are still to come are the report.
abbrev pub invariant-loop-walk : goal.invariant-loop-walk
invariant-loop-walk l = record {
  plain : l.walk.plain ≡ l.fn.plain;
  top : l.walk.top ≡ l.fn.top;
  kept : take (length l.initial.out) l.out ≡ l.initial.out;
  text : l.out ++ flat_map (path_line l.fn.plain l.fn.top) (filter (is_of l.fn.id) l.walk.rest) ≡ l.initial.out ++ where_text l.fn.plain l.fn.top l.fn.id;
}

abbrev pub decreases-loop-walk : goal.decreases-loop-walk
decreases-loop-walk l = length l.walk.rest
