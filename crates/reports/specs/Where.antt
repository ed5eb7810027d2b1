use Rattle.std.specs.Prelude.{ℕ, ◌==◌, Bool, List, [], ◌∷◌}
use Rattle.std.specs.List.{flat_map, filter}
use Rattle.emh_base.specs.declared.ids.ModId.{ModId}
use Rattle.emh_base.specs.declared.plain.Plain.{Plain}
use Rattle.flatten_rules.specs.Unfolding.{Occurrence, occurrences}
use Rattle.reports.specs.Line.{line, path_word}

-- `PATH`
abbrev pub path_line : Plain → ModId → Occurrence → List ℕ
path_line M top o = line (path_word M top o.0 ∷ [])

abbrev pub is_of : ModId → Occurrence → Bool
is_of id o = o.1.0 == id.0

-- The report of where a module is: the path of each of its occurrences.
abbrev pub where_text : Plain → ModId → ModId → List ℕ
where_text M top id = flat_map (path_line M top) (filter (is_of id) (occurrences M top))
