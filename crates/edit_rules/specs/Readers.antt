-- What the rules look at in a module table. Where the module, net, port or instance isn't there,
-- there is nothing to see.
use Rattle.std.specs.Prelude.{ℕ, ◌+◌, ◌==◌, Bool, true, false, ◌&&◌, ◌||◌, nat_lt, List, [], ◌∷◌, Option, Some, None, is_some, bytes_eq, slice_get, sum_by, count_by, length, zip}
use Rattle.std.specs.List.{list_any, list_all}
use Rattle.emh_base.specs.declared.ids.ModId.{ModId}
use Rattle.emh_base.specs.declared.ids.NetId.{NetId}
use Rattle.emh_base.specs.declared.ids.InstId.{InstId}
use Rattle.emh_base.specs.declared.plain.Dir.{Dir}
use Rattle.emh_base.specs.declared.plain.Dir.TheVariants.{Input, Output, Inout}
use Rattle.emh_base.specs.declared.plain.Range.{Range}
use Rattle.emh_base.specs.declared.plain.Src.{Src}
use Rattle.emh_base.specs.declared.plain.Src.TheVariants.{Tie0, Tie1, Bit}
use Rattle.emh_base.specs.declared.plain.Conn.{Conn}
use Rattle.emh_base.specs.declared.plain.Conn.TheVariants.{Open, Bits}
use Rattle.emh_base.specs.declared.plain.PNet.{PNet}
use Rattle.emh_base.specs.declared.plain.PPort.{PPort}
use Rattle.emh_base.specs.declared.plain.PInst.{PInst}
use Rattle.emh_base.specs.declared.plain.PModule.{PModule}
use Rattle.emh_base.specs.declared.plain.Plain.{Plain}
use Rattle.flatten_rules.specs.Lookup.{module_of, net_of, insts_of, width, width_of}
pub use Rattle.flatten_rules.specs.Changes.{port_place, inst_in, master_of, net_in, port_in}

-- modules

abbrev pub is_module : Plain → ModId → Bool
is_module M m = is_some (module_of M m)

abbrev pub is_locked : Option PModule → Bool
is_locked None = false
is_locked (Some m) = m.locked

abbrev pub nets_of : Option PModule → List PNet
nets_of None = []
nets_of (Some m) = m.nets

-- the ids that the next net and the next instance get
abbrev pub next_net_of : Option PModule → ℕ
next_net_of None = 0
next_net_of (Some m) = m.next_net

abbrev pub next_inst_of : Option PModule → ℕ
next_inst_of None = 0
next_inst_of (Some m) = m.next_inst

-- so many new objects need more ids than the counter has left: the last id is 4,294,967,294
abbrev pub lacks_room : ℕ → ℕ → Bool
lacks_room counter new = nat_lt 4294967295 (counter + new)

-- names

abbrev pub is_module_name : Plain → List ℕ → Bool
is_module_name M name = list_any (λ m. bytes_eq m.name name) M.modules

-- a net or an instance of the module has the name
abbrev pub is_name_in : Option PModule → List ℕ → Bool
is_name_in m name =
    list_any (λ net. bytes_eq net.name name) (nets_of m)
    || list_any (λ inst. bytes_eq inst.name name) (insts_of m)

-- nets, ports and instances of a module

abbrev pub is_net : Plain → ModId → NetId → Bool
is_net M m net = is_some (net_in M m net)

abbrev pub is_port : Plain → ModId → NetId → Bool
is_port M m port = is_some (port_in M m port)

abbrev pub is_inst : Plain → ModId → InstId → Bool
is_inst M m inst = is_some (inst_in M m inst)

-- a range with an index above 65,535, or of more than 4,096 bits
abbrev pub is_too_wide : Option Range → Bool
is_too_wide None = false
is_too_wide (Some range) =
    nat_lt 65535 range.left || (nat_lt 65535 range.right || nat_lt 4096 (width (Some range)))

-- masters

abbrev pub no_module : ModId
no_module = record { 0 = 0 }

-- the id of an instance's master
abbrev pub master_id : Option PInst → ModId
master_id None = no_module
master_id (Some inst) = inst.master

-- how many instances have the module as their master, in the whole table
unfoldable pub users : Plain → ModId → ℕ
users M m = sum_by (λ holder. count_by (λ inst. inst.master.0 == m.0) holder.insts) M.modules

-- connections

abbrev pub conns_of : Option PInst → List Conn
conns_of None = []
conns_of (Some inst) = inst.conns

-- the connection at a place; none where there is no such place
abbrev pub conn_at : Option ℕ → List Conn → Option Conn
conn_at None conns = None
conn_at (Some place) conns = slice_get conns place

-- the connection of an instance at a port of its master
abbrev pub conn_of : Plain → Option PInst → NetId → Option Conn
conn_of M inst port = conn_at (port_place (master_of M inst) port) (conns_of inst)

abbrev pub is_connected : Option Conn → Bool
is_connected None = false
is_connected (Some Open) = false
is_connected (Some (Bits bits)) = true

-- the instance is one of the module, and is connected at the place
abbrev pub uses_place : ModId → Option ℕ → PInst → Bool
uses_place m place inst = (inst.master.0 == m.0) && is_connected (conn_at place inst.conns)

-- an instance of the module is connected at the port
abbrev pub is_port_used : Plain → ModId → NetId → Bool
is_port_used M m port =
    list_any (λ holder. list_any (uses_place m (port_place (module_of M m) port)) holder.insts)
    M.modules

-- sources

abbrev pub is_of_net : NetId → Src → Bool
is_of_net net Tie0 = false
is_of_net net Tie1 = false
is_of_net net (Bit other offset) = other.0 == net.0

abbrev pub names_net : NetId → Conn → Bool
names_net net Open = false
names_net net (Bits bits) = list_any (is_of_net net) bits

-- a source in the module names the net
abbrev pub is_net_used : Option PModule → NetId → Bool
is_net_used m net = list_any (λ inst. list_any (names_net net) inst.conns) (insts_of m)

-- ports that are alike

abbrev pub same_dir : Dir → Dir → Bool
same_dir Input Input = true
same_dir Output Output = true
same_dir Inout Inout = true
same_dir _ _ = false

abbrev pub same_range : Option Range → Option Range → Bool
same_range None None = true
same_range (Some a) (Some b) = (a.left == b.left) && (a.right == b.right)
same_range _ _ = false

abbrev pub same_net : Option PNet → Option PNet → Bool
same_net None None = true
same_net (Some a) (Some b) = bytes_eq a.name b.name && same_range a.range b.range
same_net _ _ = false

abbrev pub same_port : PModule → PModule → PPort → PPort → Bool
same_port m other a b = same_dir a.dir b.dir && same_net (net_of m a.net) (net_of other b.net)

-- the ports of two modules are as many, and alike in name, direction and range one by one
abbrev pub same_ports : Option PModule → Option PModule → Bool
same_ports (Some m) (Some other) =
    (length m.ports == length other.ports)
    && list_all (λ (p : PPort × PPort). same_port m other p.0 p.1) (zip m.ports other.ports)
same_ports _ _ = false

-- buffers

abbrev pub goes_through : Dir → Dir → Bool
goes_through Input Output = true
goes_through Output Input = true
goes_through _ _ = false

abbrev pub is_bit : PModule → PPort → Bool
is_bit m port = width_of (net_of m port.net) == 1

-- exactly two ports of one bit, an input and an output
abbrev pub are_buffer_ports : PModule → List PPort → Bool
are_buffer_ports m [] = false
are_buffer_ports m (a ∷ []) = false
are_buffer_ports m (a ∷ b ∷ []) = goes_through a.dir b.dir && (is_bit m a && is_bit m b)
are_buffer_ports m (a ∷ b ∷ c ∷ more) = false

abbrev pub is_buffer : Option PModule → Bool
is_buffer None = false
is_buffer (Some m) = m.leaf && are_buffer_ports m m.ports

-- the numbers of settings

abbrev pub is_bad_fanout : ℕ → Bool
is_bad_fanout max = nat_lt max 2 || nat_lt 1000000 max

abbrev pub is_bad_grid : ℕ → Bool
is_bad_grid grid = (grid == 0) || nat_lt 1000000 grid
