-- The edits of nets and ports: for each the rules in the order in which they are looked at. The
-- table after each is that of NetChanges.
use Rattle.std.specs.Prelude.{ℕ, not, List, [], ◌∷◌, ◌++◌, Option}
use Rattle.emh_base.specs.declared.ids.ModId.{ModId}
use Rattle.emh_base.specs.declared.ids.NetId.{NetId}
use Rattle.emh_base.specs.declared.plain.Dir.{Dir}
use Rattle.emh_base.specs.declared.plain.Range.{Range}
use Rattle.emh_base.specs.declared.state.State.{State}
use Rattle.emh_base.specs.declared.rule.Rule.TheVariants.{NoSuchNet, NoSuchPort, NameTaken, NetInUse, RangeTooWide, NetIsPort, PortInUse, TooManyBits, TooManyObjects}
use Rattle.emh_base.specs.declared.rule.Object.TheVariants.{Module, Net, Port, NewName}
use Rattle.flatten_rules.specs.Lookup.{module_of}
use Rattle.edit_rules.specs.Check.{Check, check}
use Rattle.edit_rules.specs.Readers.{next_net_of, lacks_room, is_name_in, is_net, is_port, is_too_wide, is_port_used, is_net_used}
use Rattle.flatten_rules.specs.Limits.{has_too_many_bits}
use Rattle.edit_rules.specs.Modules.{common}
pub use Rattle.flatten_rules.specs.NetChanges.{new_net, with_net, create_net, without_net, delete_net, with_port, create_port, without_port, without_conn, delete_port, renamed, rename_net}

-- CreateNet: a new net

abbrev pub create_net_rules : State → ModId → List ℕ → Option Range → List Check
create_net_rules S m name range =
    common S m
    ++ check NameTaken NewName (is_name_in (module_of S.plain m) name)
    ∷ check RangeTooWide NewName (is_too_wide range)
    ∷ check TooManyObjects (Module m) (lacks_room (next_net_of (module_of S.plain m)) 1)
    ∷ check TooManyBits (Module m) (has_too_many_bits (create_net S.plain m name range) S.top)
    ∷ []

-- DeleteNet: removes it

abbrev pub delete_net_rules : State → ModId → NetId → List Check
delete_net_rules S m net =
    common S m
    ++ check NoSuchNet (Net m net) (not (is_net S.plain m net))
    ∷ check NetIsPort (Net m net) (is_port S.plain m net)
    ∷ check NetInUse (Net m net) (is_net_used (module_of S.plain m) net)
    ∷ []

-- CreatePort: a new net and a last port; each instance of the module gets Open there, as its last
-- connection

abbrev pub create_port_rules : State → ModId → List ℕ → Dir → Option Range → List Check
create_port_rules S m name dir range =
    common S m
    ++ check NameTaken NewName (is_name_in (module_of S.plain m) name)
    ∷ check RangeTooWide NewName (is_too_wide range)
    ∷ check TooManyObjects (Module m) (lacks_room (next_net_of (module_of S.plain m)) 1)
    ∷ check TooManyBits (Module m) (has_too_many_bits (create_port S.plain m name dir range) S.top)
    ∷ []

-- DeletePort: removes the port, its net, and the connection at its place in each instance of the
-- module

abbrev pub delete_port_rules : State → ModId → NetId → List Check
delete_port_rules S m port =
    common S m
    ++ check NoSuchPort (Port m port) (not (is_port S.plain m port))
    ∷ check PortInUse (Port m port) (is_port_used S.plain m port)
    ∷ check NetInUse (Port m port) (is_net_used (module_of S.plain m) port)
    ∷ []

-- RenameNet: a new name, of the port too

abbrev pub rename_net_rules : State → ModId → NetId → List ℕ → List Check
rename_net_rules S m net name =
    common S m
    ++ check NoSuchNet (Net m net) (not (is_net S.plain m net))
    ∷ check NameTaken NewName (is_name_in (module_of S.plain m) name)
    ∷ []
