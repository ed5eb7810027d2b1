use Rattle.std.specs.Prelude.{ℕ, List, [], ◌∷◌, ◌++◌, length, codes}
use Rattle.std.specs.Fmt.{decimal}
use Rattle.std.specs.FinMap.{FinMap, len}
use Rattle.emh_base.specs.Path.{path_cmp}
use Rattle.emh_base.specs.declared.ids.ModId.{ModId}
use Rattle.emh_base.specs.declared.placement.Placement.{Placement}
use Rattle.emh_base.specs.declared.plain.Plain.{Plain}
use Rattle.flatten_rules.specs.Unfolding.{occurrences}
use Rattle.flatten_rules.specs.Domains.{net_bits, block_instances, block_nets, pins}
use Rattle.reports.specs.Line.{line}

-- `NAME N`
abbrev pub count_line : List ℕ → ℕ → List ℕ
count_line name number = line (name ∷ decimal number ∷ [])

-- The report of counts: how many modules there are, leaves too, how many occurrences and block instances, net bits of
-- occurrences and block nets, pins and placements.
abbrev pub counts_text : Plain → ModId → FinMap path_cmp Placement → List ℕ
counts_text M top P =
    count_line (codes "modules") (length M.modules)
    ++ (count_line (codes "occurrences") (length (occurrences M top))
    ++ (count_line (codes "leaves") (length (block_instances M top))
    ++ (count_line (codes "bits") (length (net_bits M top))
    ++ (count_line (codes "nets") (length (block_nets M top))
    ++ (count_line (codes "pins") (length (pins M top))
    ++ count_line (codes "placed") (len P))))))
