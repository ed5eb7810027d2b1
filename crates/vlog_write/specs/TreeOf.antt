-- The tree that is written of a module table: names stand in place of ids, and nothing has a place. This project's own.
use Rattle.std.specs.Prelude.{ℕ, ◌==◌, Bool, true, false, ◌&&◌, not, if◌then◌else◌, List, [], ◌∷◌, ◌++◌, map, Option, Some, None, option_map, is_some}
use Rattle.std.specs.List.{filter}
use Rattle.emh_base.specs.declared.plain.Range.{Range}
use Rattle.emh_base.specs.declared.plain.Src.{Src}
use Rattle.emh_base.specs.declared.plain.Src.TheVariants as src
use Rattle.emh_base.specs.declared.plain.Conn.{Conn}
use Rattle.emh_base.specs.declared.plain.Conn.TheVariants as conn
use Rattle.emh_base.specs.declared.plain.PNet.{PNet}
use Rattle.emh_base.specs.declared.plain.PPort.{PPort}
use Rattle.emh_base.specs.declared.plain.PInst.{PInst}
use Rattle.emh_base.specs.declared.plain.PModule.{PModule}
use Rattle.emh_base.specs.declared.plain.Plain.{Plain}
use Rattle.emh_base.specs.Text.{index_of}
use Rattle.flatten_rules.specs.Lookup.{module_of, net_of, port_of, width_of, bits_from}
use Rattle.named_tables.specs.NamedTable.{net_name, net_range, module_name}
use Rattle.vlog_read.specs.declared.tree.At.{At}
use Rattle.vlog_read.specs.declared.tree.Span.{Span}
use Rattle.vlog_read.specs.declared.tree.Part.{Part}
use Rattle.vlog_read.specs.declared.tree.Part.TheVariants.{Name, Bit, Lit}
use Rattle.vlog_read.specs.declared.tree.TConn.{TConn}
use Rattle.vlog_read.specs.declared.tree.TInst.{TInst}
use Rattle.vlog_read.specs.declared.tree.Item.{Item}
use Rattle.vlog_read.specs.declared.tree.Item.TheVariants.{Decl as Declaration, Insts}
use Rattle.vlog_read.specs.declared.tree.Header.TheVariants.{Names}
use Rattle.vlog_read.specs.declared.tree.TModule.{TModule}
use Rattle.vlog_read.specs.declared.tree.Tree.{Tree}
use Rattle.vlog_read.specs.Bare.{name_at}

abbrev pub span_of : Option Range → Option Span
span_of range = option_map (λ (r : Range). record { range = r; at = 0 }) range

-- a port has its net's name
abbrev pub port_name : PModule → PPort → List ℕ
port_name m port = net_name (net_of m port.net)

-- the declaration of a port: its direction, and its net's range and name
abbrev pub port_item : PModule → PPort → Item
port_item m port = Declaration (record {
  dir = Some port.dir;
  wire = false;
  range = span_of (net_range (net_of m port.net));
  names = name_at (port_name m port) ∷ [];
})

-- the declaration of a net that is no port
abbrev pub wire_item : PNet → Item
wire_item net =
    Declaration (record {
      dir = None;
      wire = true;
      range = span_of net.range;
      names = name_at net.name ∷ [];
    })

-- the nets that are no ports
abbrev pub wires : PModule → List PNet
wires m = filter (λ (net : PNet). not (is_some (port_of m net.id))) m.nets

-- one bit of a net: the name alone where the net has no range, else the name with the bit's index
abbrev pub bit_part : List ℕ → Option Range → ℕ → Part
bit_part name None offset = Name (name_at name)
bit_part name (Some range) offset = Bit (name_at name) (index_of range offset)

abbrev pub source_part : PModule → Src → Part
source_part m src.Tie0 = Lit 1 0
source_part m src.Tie1 = Lit 1 1
source_part m (src.Bit net offset) =
    bit_part (net_name (net_of m net)) (net_range (net_of m net)) offset

abbrev pub is_same : Src → Src → Bool
is_same src.Tie0 src.Tie0 = true
is_same src.Tie0 src.Tie1 = false
is_same src.Tie0 (src.Bit n k) = false
is_same src.Tie1 src.Tie0 = false
is_same src.Tie1 src.Tie1 = true
is_same src.Tie1 (src.Bit n k) = false
is_same (src.Bit n k) src.Tie0 = false
is_same (src.Bit n k) src.Tie1 = false
is_same (src.Bit n k) (src.Bit o j) = n.0 == o.0 && k == j

abbrev pub are_same : List Src → List Src → Bool
are_same [] [] = true
are_same [] (y ∷ ys) = false
are_same (x ∷ xs) [] = false
are_same (x ∷ xs) (y ∷ ys) = is_same x y && are_same xs ys

-- the sources are all bits of the net of the first one, from its leftmost on
abbrev pub are_whole : PModule → List Src → Bool
are_whole m [] = false
are_whole m (src.Tie0 ∷ bits) = false
are_whole m (src.Tie1 ∷ bits) = false
are_whole m (src.Bit net offset ∷ bits) =
    are_same (src.Bit net offset ∷ bits) (bits_from net 0 (width_of (net_of m net)))

-- the name of the net of the first source
abbrev pub first_name : PModule → List Src → List ℕ
first_name m [] = []
first_name m (src.Tie0 ∷ bits) = []
first_name m (src.Tie1 ∷ bits) = []
first_name m (src.Bit net offset ∷ bits) = net_name (net_of m net)

-- a whole net by its name, else bit after bit
abbrev pub parts_of : PModule → List Src → List Part
parts_of m bits =
    if are_whole m bits then Name (name_at (first_name m bits)) ∷ [] else map (source_part m) bits

abbrev pub conn_parts : PModule → Conn → List Part
conn_parts m conn.Open = []
conn_parts m (conn.Bits bits) = parts_of m bits

-- in a module, the connection of a port of this name
abbrev pub conn_tree : PModule → List ℕ → Conn → TConn
conn_tree m port c =
    record { at = 0; port = Some (name_at port); expr_at = 0; parts = conn_parts m c }

-- in a module, a connection for each port of the master, in the order of the ports
abbrev pub conn_trees : PModule → PModule → List PPort → List Conn → List TConn
conn_trees m master [] conns = []
conn_trees m master (port ∷ ports) [] = []
conn_trees m master (port ∷ ports) (c ∷ conns) =
    conn_tree m (port_name master port) c ∷ conn_trees m master ports conns

abbrev pub inst_conns : PModule → Option PModule → List Conn → List TConn
inst_conns m None conns = []
inst_conns m (Some master) conns = conn_trees m master master.ports conns

abbrev pub inst_tree : Plain → PModule → PInst → TInst
inst_tree M m inst =
    record { name = name_at inst.name; conns = inst_conns m (module_of M inst.master) inst.conns }

-- an item of one instance
abbrev pub inst_item : Plain → PModule → PInst → Item
inst_item M m inst =
    Insts (name_at (module_name (module_of M inst.master))) (inst_tree M m inst ∷ [])

-- the names of the ports, in their order
abbrev pub port_names : PModule → List At
port_names m = map (λ (port : PPort). name_at (port_name m port)) m.ports

-- a module: its ports in order, then its other nets and its instances by id
abbrev pub module_tree : Plain → PModule → TModule
module_tree M m = record {
  name = name_at m.name;
  marked = m.leaf;
  header = Names (port_names m);
  items = map (port_item m) m.ports ++ (map wire_item (wires m) ++ map (inst_item M m) m.insts);
}

abbrev pub leaves : Plain → List PModule
leaves M = filter (λ (m : PModule). m.leaf) M.modules

abbrev pub others : Plain → List PModule
others M = filter (λ (m : PModule). not m.leaf) M.modules

-- the leaves by id, and then the other modules by id
abbrev pub in_written_order : Plain → List PModule
in_written_order M = leaves M ++ others M

unfoldable pub tree_of : Plain → Tree
tree_of M = record { modules = map (module_tree M) (in_written_order M) }
