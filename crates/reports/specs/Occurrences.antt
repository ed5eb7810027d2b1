use Rattle.std.specs.Prelude.{ℕ, List, [], ◌∷◌, ◌++◌, Some, codes}
use Rattle.std.specs.List.{flat_map}
use Rattle.emh_base.specs.declared.ids.ModId.{ModId}
use Rattle.emh_base.specs.declared.plain.Plain.{Plain}
use Rattle.flatten_rules.specs.Lookup.{module_of}
use Rattle.flatten_rules.specs.Unfolding.{Occurrence, occurrences}
use Rattle.flatten_rules.specs.Domains.{NetBit, bits_inside, root_of}
use Rattle.flatten_rules.specs.Texts.{root_text}
use Rattle.flatten_rules.specs.FlatLines.{module_text}
use Rattle.reports.specs.Line.{line, path_word, bit_word}

-- `occ PATH MODULE`
abbrev pub occurrence_line : Plain → ModId → Occurrence → List ℕ
occurrence_line M top o = line (codes "occ" ∷ path_word M top o.0 ∷ module_text (module_of M o.1) ∷ [])

-- `bit NETBIT ROOT`
abbrev pub bit_line : Plain → ModId → NetBit → List ℕ
bit_line M top bit =
    line (codes "bit" ∷ bit_word M top bit ∷ root_text M top (Some (root_of M top bit)) ∷ [])

abbrev pub occurrence_lines : Plain → ModId → Occurrence → List ℕ
occurrence_lines M top o =
    occurrence_line M top o ++ flat_map (bit_line M top) (bits_inside o.0 (module_of M o.1))

-- The report of occurrences: each with its module, and with its net bits where it is no leaf.
abbrev pub occurrences_text : Plain → ModId → List ℕ
occurrences_text M top = flat_map (occurrence_lines M top) (occurrences M top)
