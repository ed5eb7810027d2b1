use Rattle.std.proofs.Common.{◌≡◌, ◌++◌, take}
use Rattle.std.specs.List.{flat_map}
use Rattle.flatten_rules.specs.FlatLines.{term_lines}
use Rattle.flatten_rules.proofs.lines.push_terms.Given as goal

-- The lines so far stand last.
abbrev pub invariant-loop-port : goal.invariant-loop-port
invariant-loop-port l = l.lines.items ≡ l.initial.lines.items
    ++ flat_map (term_lines l.fn.plain l.fn.top) (take l.port-index l.port-items)
