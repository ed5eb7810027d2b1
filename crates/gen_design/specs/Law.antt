-- What holds of made designs. This project's own.
use Rattle.std.specs.Prelude.{◌≡◌, ℕ, ◌-◌, ◌≤◌, Some}
use Rattle.flatten_rules.specs.Lookup.{module_of}
use Rattle.flatten_rules.specs.Sound.{IsSound}
use Rattle.gen_design.specs.Made.{made_module, made, made_top}

-- A made table is sound, and its top is the last module.
abbrev pub MadeIsSound : Type 0
MadeIsSound =
    (x modules width : ℕ) → 1 ≤ modules → modules ≤ 10000 → 1 ≤ width → width ≤ 64
    → IsSound (made x modules width)
    × (module_of (made x modules width) (made_top modules)
    ≡ Some (made_module x width (modules - 1)))
