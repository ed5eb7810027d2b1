-- The edits of settings: the rules of each in the order in which they are looked at.
use Rattle.std.specs.Prelude.{ℕ, not, List, [], ◌∷◌}
use Rattle.emh_base.specs.declared.ids.ModId.{ModId}
use Rattle.emh_base.specs.declared.state.State.{State}
use Rattle.emh_base.specs.declared.rule.Rule.TheVariants.{NoSuchModule, BadBuffer, BadNumber}
use Rattle.emh_base.specs.declared.rule.Object.TheVariants.{Module, Number}
use Rattle.flatten_rules.specs.Lookup.{module_of}
use Rattle.edit_rules.specs.Check.{Check, check}
use Rattle.edit_rules.specs.Readers.{is_module, is_buffer, is_bad_fanout, is_bad_grid}

-- SetFanout: the most sinks of a net bit, and the cell that splits them up
abbrev pub set_fanout_rules : State → ℕ → ModId → List Check
set_fanout_rules S max cell =
    check NoSuchModule (Module cell) (not (is_module S.plain cell))
    ∷ check BadBuffer (Module cell) (not (is_buffer (module_of S.plain cell)))
    ∷ check BadNumber Number (is_bad_fanout max)
    ∷ []

-- SetGrid: the grid that placements are snapped to
abbrev pub set_grid_rules : ℕ → List Check
set_grid_rules grid = check BadNumber Number (is_bad_grid grid) ∷ []
