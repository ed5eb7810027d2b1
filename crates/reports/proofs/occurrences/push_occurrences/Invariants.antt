use Rattle.std.proofs.Common.{◌≡◌, ◌++◌, take, length}
use Rattle.std.specs.List.{flat_map}
use Rattle.reports.specs.Occurrences.{occurrence_lines, occurrences_text}
use Rattle.reports.proofs.occurrences.push_occurrences.Given as goal

-- The lines so far and those of the occurrences that are still to come are the report.
abbrev pub invariant-loop-walk : goal.invariant-loop-walk
invariant-loop-walk l = record {
  plain : l.walk.plain ≡ l.fn.plain;
  top : l.walk.top ≡ l.fn.top;
  kept : take (length l.initial.out) l.out ≡ l.initial.out;
  text : l.out ++ flat_map (occurrence_lines l.fn.plain l.fn.top) l.walk.rest ≡ l.initial.out ++ occurrences_text l.fn.plain l.fn.top;
}

abbrev pub decreases-loop-walk : goal.decreases-loop-walk
decreases-loop-walk l = length l.walk.rest
