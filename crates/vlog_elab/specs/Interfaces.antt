-- What a module is to those that have instances of it: whether it is a leaf, and its ports. And the modules that a text
-- adds to a table.
use Rattle.std.specs.Prelude.{ℕ, ◌+◌, ◌==◌, Bool, true, false, ◌&&◌, ◌||◌, if◌then◌else◌, List, [], ◌∷◌, ◌++◌, map, length, Option, Some, None, unwrap_or, bytes_eq}
use Rattle.std.specs.List.{flat_map, list_any}
use Rattle.emh_base.specs.declared.plain.Dir.{Dir}
use Rattle.emh_base.specs.declared.plain.Dir.TheVariants.{Input, Output, Inout}
use Rattle.emh_base.specs.declared.plain.Range.{Range}
use Rattle.emh_base.specs.declared.plain.PNet.{PNet}
use Rattle.emh_base.specs.declared.plain.PPort.{PPort}
use Rattle.emh_base.specs.declared.plain.PModule.{PModule}
use Rattle.emh_base.specs.declared.plain.Plain.{Plain}
use Rattle.flatten_rules.specs.Lookup.{net_of}
use Rattle.vlog_read.specs.declared.tree.At.{At}
use Rattle.vlog_read.specs.declared.tree.Span.{Span}
use Rattle.vlog_read.specs.declared.tree.Decl.{Decl}
use Rattle.vlog_read.specs.declared.tree.Item.{Item}
use Rattle.vlog_read.specs.declared.tree.Item.TheVariants.{Decl as Declaration, Insts}
use Rattle.vlog_read.specs.declared.tree.TModule.{TModule}
use Rattle.vlog_elab.specs.declared.interface.Port.{Port}
use Rattle.vlog_elab.specs.declared.interface.Interface.{Interface}
use Rattle.vlog_elab.specs.declared.interface.Known.{Known}
use Rattle.vlog_elab.specs.declared.said.Said.{Said}
use Rattle.flatten_rules.specs.Check.{each_after}
use Rattle.vlog_elab.specs.Named.{Named, named, numbered}
use Rattle.vlog_elab.specs.Text.{is_leaf, header_names, header_decls, range_of}

-- where the declarations of a module are looked at
pub data Place : Type 0 where
  -- the range of a declaration, with the first name that is declared
  Ranged : Span → At → Place
  -- a direction of a name
  Directed : At → Port → Place
  -- a wire declaration of a name; the word `wire` in a declaration of a direction is none
  Wired : At → Option Range → Place
  -- an item of instances of this master
  Placed : At → Place

abbrev pub range_places : Option Span → List At → List Place
range_places None names = []
range_places (Some s) [] = []
range_places (Some s) (n ∷ names) = Ranged s n ∷ []

abbrev pub name_place : Option Dir → Option Range → At → Place
name_place None range n = Wired n range
name_place (Some dir) range n = Directed n (record { dir = dir; range = range })

-- at a declaration, its range, and then its names from the left
abbrev pub decl_places : Decl → List Place
decl_places d = range_places d.range d.names ++ map (name_place d.dir (range_of d)) d.names

abbrev pub item_places : Item → List Place
item_places (Declaration d) = decl_places d
item_places (Insts master insts) = Placed master ∷ []

-- those of a module, in the order of the text
abbrev pub places : TModule → List Place
places m = flat_map decl_places (header_decls m.header) ++ flat_map item_places m.items

-- the direction that is declared at a place, with the range of its declaration
abbrev pub direction_at : Place → Named Port
direction_at (Ranged s n) = []
direction_at (Directed n port) = (n.name, port) ∷ []
direction_at (Wired n range) = []
direction_at (Placed master) = []

-- the range of the wire declaration at a place
abbrev pub wire_at : Place → Named (Option Range)
wire_at (Ranged s n) = []
wire_at (Directed n port) = []
wire_at (Wired n range) = (n.name, range) ∷ []
wire_at (Placed master) = []

-- what places say of names
abbrev pub said : List Place → Said
said before = record { directions = flat_map direction_at before; wires = flat_map wire_at before }

-- a port of the header is as its direction says
abbrev pub port_of : Named Port → At → List ℕ × Port
port_of dirs n = (n.name, unwrap_or (named dirs n.name) (record { dir = Input; range = None }))

-- the ports of a module, in the order of the header
abbrev pub ports : TModule → Named Port
ports m = map (port_of (said (places m)).directions) (header_names m.header)

-- what a module of the text is
abbrev pub face_with : Bool → ℕ → TModule → Named Port → List ℕ × Interface
face_with leaf id m ps = (m.name.name, record { id = record { 0 = id }; leaf = leaf; ports = ps })

abbrev pub interface : Bool → ℕ → TModule → List ℕ × Interface
interface all_leaf id m = face_with (is_leaf all_leaf m) id m (ports m)

-- a port of the table has the name and the range of its inner net
abbrev pub row_port_on : Dir → Option PNet → List ℕ × Port
row_port_on dir None = ([], record { dir = dir; range = None })
row_port_on dir (Some net) = (net.name, record { dir = dir; range = net.range })

abbrev pub row_port : PModule → PPort → List ℕ × Port
row_port m port = row_port_on port.dir (net_of m port.net)

-- what a module of the table is
abbrev pub row_face : PModule → List ℕ × Interface
row_face m = (m.name, record { id = m.id; leaf = m.leaf; ports = map (row_port m) m.ports })

-- a module of that name is in the table, or among those before in the text
abbrev pub has_module : Plain → List TModule → List ℕ → Bool
has_module M before name =
    list_any (λ (m : PModule). bytes_eq name m.name) M.modules
    || list_any (λ (m : TModule). bytes_eq name m.name.name) before

-- the modules of a text that are added to a table: each name's first, where the table hasn't it. A leaf again adds nothing.
abbrev pub added : Plain → List TModule → List TModule
added M = each_after (λ before (m : TModule). if has_module M before m.name.name then [] else m ∷ []) []

-- the modules of the table, and those that a text adds to it, whose ids go on from the table's counter
abbrev pub interfaces : Plain → Bool → List TModule → Named Interface
interfaces M all_leaf modules = map row_face M.modules ++ numbered (interface all_leaf) M.next_module (added M modules)

-- what is known of the modules of the table and those before in the text: what they are, and the id of the next one
abbrev pub known : Plain → Bool → List TModule → Known
known M all_leaf before =
    record { interfaces = interfaces M all_leaf before; next_module = M.next_module + length (added M before) }

abbrev pub same_dir : Dir → Dir → Bool
same_dir Input Input = true
same_dir Input Output = false
same_dir Input Inout = false
same_dir Output Input = false
same_dir Output Output = true
same_dir Output Inout = false
same_dir Inout Input = false
same_dir Inout Output = false
same_dir Inout Inout = true

abbrev pub same_range : Option Range → Option Range → Bool
same_range None None = true
same_range None (Some b) = false
same_range (Some a) None = false
same_range (Some a) (Some b) = a.left == b.left && a.right == b.right

abbrev pub same_port : List ℕ × Port → List ℕ × Port → Bool
same_port p q = bytes_eq p.0 q.0 && same_dir p.1.dir q.1.dir && same_range p.1.range q.1.range

-- the same ports: number, names, directions and ranges, in order
abbrev pub same_ports : Named Port → Named Port → Bool
same_ports [] [] = true
same_ports [] (q ∷ qs) = false
same_ports (p ∷ ps) [] = false
same_ports (p ∷ ps) (q ∷ qs) = same_port p q && same_ports ps qs
