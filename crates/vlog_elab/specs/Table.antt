-- The table that a text gives: ids, nets, ports, instances and their connections.
use Rattle.std.specs.Prelude.{ℕ, zero, suc, ◌-◌, ◌+◌, ◌/◌, ◌%◌, ◌^◌, ◌==◌, Bool, true, false, if◌then◌else◌, List, [], ◌∷◌, ◌++◌, map, find, length, slice_get, Option, Some, None, is_some, unwrap_or}
use Rattle.std.specs.List.{flat_map}
use Rattle.emh_base.specs.declared.ids.ModId.{ModId}
use Rattle.emh_base.specs.declared.ids.NetId.{NetId}
use Rattle.emh_base.specs.declared.plain.Range.{Range}
use Rattle.emh_base.specs.declared.plain.Src.{Src}
use Rattle.emh_base.specs.declared.plain.Src.TheVariants as src
use Rattle.emh_base.specs.declared.plain.Conn.{Conn}
use Rattle.emh_base.specs.declared.plain.Conn.TheVariants as conn
use Rattle.emh_base.specs.declared.plain.PNet.{PNet}
use Rattle.emh_base.specs.declared.plain.PPort.{PPort}
use Rattle.emh_base.specs.declared.plain.PInst.{PInst}
use Rattle.emh_base.specs.declared.plain.PModule.{PModule}
use Rattle.emh_base.specs.declared.plain.Plain.{Plain}
use Rattle.flatten_rules.specs.Lookup.{width, bits_from}
use Rattle.vlog_read.specs.declared.tree.At.{At}
use Rattle.vlog_read.specs.declared.tree.Decl.{Decl}
use Rattle.vlog_read.specs.declared.tree.Part.{Part}
use Rattle.vlog_read.specs.declared.tree.Part.TheVariants.{Name, Bit, Bits, Lit}
use Rattle.vlog_read.specs.declared.tree.TConn.{TConn}
use Rattle.vlog_read.specs.declared.tree.TInst.{TInst}
use Rattle.vlog_read.specs.declared.tree.Item.{Item}
use Rattle.vlog_read.specs.declared.tree.Item.TheVariants.{Decl as Declaration, Insts}
use Rattle.vlog_read.specs.declared.tree.TModule.{TModule}
use Rattle.vlog_read.specs.declared.tree.Tree.{Tree}
use Rattle.vlog_elab.specs.declared.interface.Port.{Port}
use Rattle.vlog_elab.specs.declared.interface.Interface.{Interface}
use Rattle.vlog_elab.specs.declared.scope.Net.{Net}
use Rattle.vlog_elab.specs.Named.{Named, named, place_of, is_there, firsts, numbered}
use Rattle.vlog_elab.specs.Text.{is_leaf, header_decls, range_of}
use Rattle.vlog_elab.specs.Interfaces.{ports, added, interfaces}
use Rattle.vlog_elab.specs.Steps.{ports_of}
use Rattle.vlog_elab.specs.Connections.{net_range, port_named}

-- the net that a part of an expression mentions
abbrev pub part_net : Part → Named Net
part_net (Name n) = (n.name, record { range = None; implied = true }) ∷ []
part_net (Bit n index) = []
part_net (Bits n range) = []
part_net (Lit size value) = []

abbrev pub name_net : Option Range → At → List ℕ × Net
name_net range n = (n.name, record { range = range; implied = false })

abbrev pub decl_nets : Decl → Named Net
decl_nets d = map (name_net (range_of d)) d.names

abbrev pub conn_nets : TConn → Named Net
conn_nets c = flat_map part_net c.parts

abbrev pub inst_nets : TInst → Named Net
inst_nets i = flat_map conn_nets i.conns

abbrev pub item_nets : Item → Named Net
item_nets (Declaration d) = decl_nets d
item_nets (Insts master insts) = flat_map inst_nets insts

-- the nets of a module, in the order of their first mention; a header of bare names mentions none
abbrev pub nets : TModule → Named Net
nets m = firsts (flat_map decl_nets (header_decls m.header) ++ flat_map item_nets m.items)

-- a net's id is its place among the module's nets
abbrev pub net_id : Named Net → List ℕ → NetId
net_id ns name = record { 0 = unwrap_or (place_of ns name) 0 }

-- the offset of an index from the range's left end
abbrev pub offset_in : Option Range → ℕ → ℕ
offset_in None index = 0
offset_in (Some r) index = (r.left - index) + (index - r.left)

-- the tie that a bit of a value is, at a place from the right
abbrev pub tie_of : ℕ → ℕ → Src
tie_of value place = if value / 2 ^ place % 2 == 1 then src.Tie1 else src.Tie0

-- the lowest `size` bits of a value, the highest of them first
abbrev pub literal_bits : ℕ → ℕ → List Src
literal_bits zero value = []
literal_bits (suc n) value = tie_of value n ∷ literal_bits n value

-- the bits of a part of an expression, leftmost first
abbrev pub part_bits : Named Net → Part → List Src
part_bits ns (Name n) = bits_from (net_id ns n.name) 0 (width (net_range (named ns n.name)))
part_bits ns (Bit n index) = bits_from (net_id ns n.name) (offset_in (net_range (named ns n.name)) index) 1
part_bits ns (Bits n range) =
    bits_from (net_id ns n.name) (offset_in (net_range (named ns n.name)) range.left) (width (Some range))
part_bits ns (Lit size value) = literal_bits size value

-- an empty expression leaves the port open
abbrev pub conn_bits : Named Net → List Part → Conn
conn_bits ns [] = conn.Open
conn_bits ns (p ∷ ps) = conn.Bits (flat_map (part_bits ns) (p ∷ ps))

-- a port that has no connection is open
abbrev pub conn_of : Named Net → Option TConn → Conn
conn_of ns None = conn.Open
conn_of ns (Some c) = conn_bits ns c.parts

-- a connection by name to the port of that name
abbrev pub is_to : List ℕ → TConn → Bool
is_to port c = is_there (port_named c.port) port

-- the connection to a port, by its place or by its name
abbrev pub conn_to : List TConn → ℕ → List ℕ → Option TConn
conn_to [] place port = None
conn_to (c ∷ cs) place port = if is_some c.port then find (is_to port) (c ∷ cs) else slice_get (c ∷ cs) place

-- the connections of an instance stand in the order of its master's ports
abbrev pub conns_of : Named Net → Named Port → List TConn → List Conn
conns_of ns ps conns = numbered (λ place port. conn_of ns (conn_to conns place port.0)) 0 ps

abbrev pub master_id : Option Interface → ModId
master_id None = record { 0 = 0 }
master_id (Some interface) = interface.id

-- the instances of a module in order, each with its master's name
abbrev pub insts_in : Item → List (At × TInst)
insts_in (Declaration d) = []
insts_in (Insts master insts) = map (λ i. (master, i)) insts

abbrev pub insts : TModule → List (At × TInst)
insts m = flat_map insts_in m.items

abbrev pub inst_row : Named Interface → Named Net → ℕ → At × TInst → PInst
inst_row fs ns id inst = record {
  id = record { 0 = id };
  name = inst.1.name.name;
  master = master_id (named fs inst.0.name);
  conns = conns_of ns (ports_of (named fs inst.0.name)) inst.1.conns;
}

abbrev pub net_row : ℕ → List ℕ × Net → PNet
net_row id net = record { id = record { 0 = id }; name = net.0; range = net.1.range }

-- a port's inner net is the net of its name
abbrev pub port_row : Named Net → List ℕ × Port → PPort
port_row ns port = record { net = net_id ns port.0; dir = port.1.dir }

-- nets are numbered from 0 in the order of their first mention, instances from 0 in the order of the text
abbrev pub row : Named Interface → Bool → ℕ → TModule → PModule
row fs all_leaf id m = record {
  id = record { 0 = id };
  name = m.name.name;
  leaf = is_leaf all_leaf m;
  locked = false;
  nets = numbered net_row 0 (nets m);
  ports = map (port_row (nets m)) (ports m);
  insts = numbered (inst_row fs (nets m)) 0 (insts m);
  next_net = length (nets m);
  next_inst = length (insts m);
}

-- the table with the text's modules after it, whose ids go on from its counter
unfoldable pub built : Plain → Bool → Tree → Plain
built M all_leaf tree = record {
  modules = M.modules ++ numbered (row (interfaces M all_leaf tree.modules) all_leaf) M.next_module (added M tree.modules);
  next_module = M.next_module + length (added M tree.modules);
}
