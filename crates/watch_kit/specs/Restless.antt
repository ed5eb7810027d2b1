-- Restless: a net whose name ends in `_p` gets the ending `_q`, and the other way round. It serves
-- to try the budget. This project's own.
use Rattle.std.specs.Prelude.{ℕ, ◌-◌, List, [], ◌∷◌, ◌++◌, take, drop, length, bytes_eq, Option, Some, None, option_and_then, codes, if◌then◌else◌}
use Rattle.emh_base.specs.declared.ids.ModId.{ModId}
use Rattle.emh_base.specs.declared.ids.NetId.{NetId}
use Rattle.emh_base.specs.declared.plain.PNet.{PNet}
use Rattle.emh_base.specs.declared.state.State.{State}
use Rattle.emh_base.specs.declared.edit.Edit.{Edit}
use Rattle.emh_base.specs.declared.edit.Edit.TheVariants.{CreateNet, RenameNet}
use Rattle.edit_rules.specs.Readers.{net_in}
use Rattle.session_rules.specs.Take.{Wants}

-- the last two bytes of a name, and those before them
abbrev pub ending : List ℕ → List ℕ
ending name = drop (length name - 2) name

abbrev pub stem : List ℕ → List ℕ
stem name = take (length name - 2) name

-- the name with the other ending; none where it has neither
abbrev pub turned : List ℕ → Option (List ℕ)
turned name =
    if bytes_eq (ending name) (codes "_p") then Some (stem name ++ codes "_q")
    else if bytes_eq (ending name) (codes "_q") then Some (stem name ++ codes "_p")
    else None

abbrev pub rename_to : ModId → NetId → Option (List ℕ) → List Edit
rename_to m net None = []
rename_to m net (Some name) = RenameNet m net name ∷ []

-- by the net's present name, if it is there
abbrev pub turn_net : State → ModId → NetId → List Edit
turn_net S m net =
    rename_to m net (option_and_then (λ (there : PNet). turned there.name) (net_in S.plain m net))

abbrev pub restless_by : State → Edit → Option ℕ → List Edit
restless_by S (RenameNet m net name) made = turn_net S m net
restless_by S (CreateNet m name range) (Some made) = turn_net S m (record { 0 = made })
restless_by S _ _ = []

abbrev pub restless : Wants
restless S c = restless_by S c.edit c.made
