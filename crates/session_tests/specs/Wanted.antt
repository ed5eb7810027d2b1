-- What the observers of the tests want.
use Rattle.std.specs.Prelude.{ℕ, List, [], ◌∷◌, Option, Some, None, codes, bytes_eq, if◌then◌else◌}
use Rattle.emh_base.specs.declared.edit.Edit.{Edit}
use Rattle.emh_base.specs.declared.edit.Edit.TheVariants.{CreateNet, RenameNet, SetGrid}

abbrev pub turned : List ℕ → List ℕ
turned name = if bytes_eq name (codes "x_p") then codes "x_q" else codes "x_p"

-- at a net that is made or renamed, by what was made: it is renamed
abbrev pub turn : Edit → Option ℕ → List Edit
turn (RenameNet m net name) made = RenameNet m net (turned name) ∷ []
turn (CreateNet m name range) (Some id) = RenameNet m (record { 0 = id }) (turned name) ∷ []
turn _ made = []

-- at a net that is made: the grid is set twice
abbrev pub grids : ℕ → ℕ → Edit → List Edit
grids first second (CreateNet m name range) = SetGrid first ∷ SetGrid second ∷ []
grids first second _ = []
