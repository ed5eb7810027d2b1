use Rattle.std.specs.Prelude.{ℕ, List, [], ◌∷◌}
use Rattle.std.specs.List.{flat_map}
use Rattle.emh_base.specs.declared.ids.ModId.{ModId}
use Rattle.emh_base.specs.declared.plain.Plain.{Plain}
use Rattle.flatten_rules.specs.Domains.{Pin, pins, root_of_pin}
use Rattle.flatten_rules.specs.Texts.{root_text}
use Rattle.reports.specs.Line.{line, pin_word}

-- `PIN ROOT`
abbrev pub pin_line : Plain → ModId → Pin → List ℕ
pin_line M top pin = line (pin_word M top pin ∷ root_text M top (root_of_pin M top pin) ∷ [])

-- The report of the pins of the leaves: a line for each, in the order of the block domain.
abbrev pub pins_text : Plain → ModId → List ℕ
pins_text M top = flat_map (pin_line M top) (pins M top)
