use Rattle.std.proofs.Common.{◌≡◌, ◌++◌, map}
use Rattle.std.specs.List.{range_with_len}
use Rattle.flatten_rules.specs.FlatLines.{term_line}
use Rattle.flatten_rules.proofs.lines.push_term.Given as goal

-- The lines so far stand last.
abbrev pub invariant-loop-offset : goal.invariant-loop-offset
invariant-loop-offset l = l.lines.items ≡ l.initial.lines.items
    ++ map (term_line l.way.plain l.way.top l.port) (range_with_len 0 l.offset)
