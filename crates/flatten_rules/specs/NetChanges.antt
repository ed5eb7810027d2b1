-- The table after an edit of a net or a port.
use Rattle.std.specs.Prelude.{ℕ, ◌+◌, ◌==◌, not, List, [], ◌∷◌, ◌++◌, map, filter, remove, Option, Some, None, if◌then◌else◌}
use Rattle.emh_base.specs.declared.ids.ModId.{ModId}
use Rattle.emh_base.specs.declared.ids.NetId.{NetId}
use Rattle.emh_base.specs.declared.plain.Dir.{Dir}
use Rattle.emh_base.specs.declared.plain.Range.{Range}
use Rattle.emh_base.specs.declared.plain.Conn.{Conn}
use Rattle.emh_base.specs.declared.plain.Conn.TheVariants.{Open}
use Rattle.emh_base.specs.declared.plain.PNet.{PNet}
use Rattle.emh_base.specs.declared.plain.PModule.{PModule}
use Rattle.emh_base.specs.declared.plain.Plain.{Plain}
use Rattle.flatten_rules.specs.Lookup.{module_of}
use Rattle.flatten_rules.specs.Changes.{port_place, with_module, at_instances, with_conns}

-- CreateNet: a new net

abbrev pub new_net : ℕ → List ℕ → Option Range → PNet
new_net id name range = record { id = record { 0 = id }; name = name; range = range }

-- the module with a net more, which stands last and has the counter's value as its id
abbrev pub with_net : List ℕ → Option Range → PModule → PModule
with_net name range m =
    record m { nets = m.nets ++ new_net m.next_net name range ∷ []; next_net = m.next_net + 1 }

abbrev pub create_net : Plain → ModId → List ℕ → Option Range → Plain
create_net M m name range = with_module M m (with_net name range)

-- DeleteNet: the net goes

abbrev pub without_net : NetId → PModule → PModule
without_net net m = record m { nets = filter (λ other. not (other.id.0 == net.0)) m.nets }

abbrev pub delete_net : Plain → ModId → NetId → Plain
delete_net M m net = with_module M m (without_net net)

-- CreatePort: a new net and a last port; each instance of the module gets Open there, as its last
-- connection

abbrev pub with_port : List ℕ → Dir → Option Range → PModule → PModule
with_port name dir range m =
    record (with_net name range m) {
      ports = m.ports ++ record { net = record { 0 = m.next_net }; dir = dir } ∷ [];
    }

abbrev pub create_port : Plain → ModId → List ℕ → Dir → Option Range → Plain
create_port M m name dir range =
    at_instances (with_module M m (with_port name dir range)) m
    (with_conns (λ conns. conns ++ Open ∷ []))

-- DeletePort: the port goes with its net, and with the connection at its place in each instance of
-- the module

abbrev pub without_port : NetId → PModule → PModule
without_port port m =
    record (without_net port m) { ports = filter (λ other. not (other.net.0 == port.0)) m.ports }

abbrev pub without_conn : Option ℕ → List Conn → List Conn
without_conn None conns = conns
without_conn (Some place) conns = remove conns place

abbrev pub delete_port : Plain → ModId → NetId → Plain
delete_port M m port =
    at_instances (with_module M m (without_port port)) m
    (with_conns (without_conn (port_place (module_of M m) port)))

-- RenameNet: a new name, of the port too

abbrev pub renamed : List ℕ → PNet → PNet
renamed name net = record net { name = name }

abbrev pub rename_net : Plain → ModId → NetId → List ℕ → Plain
rename_net M m net name =
    with_module M m
    (λ holder. record holder {
      nets =
          map (λ other. if other.id.0 == net.0 then renamed name other else other) holder.nets;
    })
