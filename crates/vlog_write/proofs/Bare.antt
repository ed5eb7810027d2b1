-- The tree of a table has no places.
use Rattle.std.proofs.Common.{◌≡◌, refl, ◌∙◌, ap, ap₂, ℕ, Bool, true, false, List, [], ◌∷◌, ◌++◌, map, Option, Some, None}
use Rattle.std.specs.Prelude.{option_map, if◌then◌else◌}
use Rattle.std.proofs.lemmas.List.{map-append}
use Rattle.emh_base.specs.declared.plain.Conn.{Conn}
use Rattle.emh_base.specs.declared.plain.Conn.TheVariants as plain_conn
use Rattle.emh_base.specs.declared.plain.PInst.{PInst}
use Rattle.emh_base.specs.declared.plain.PModule.{PModule}
use Rattle.emh_base.specs.declared.plain.PNet.{PNet}
use Rattle.emh_base.specs.declared.plain.PPort.{PPort}
use Rattle.emh_base.specs.declared.plain.Plain.{Plain}
use Rattle.emh_base.specs.declared.plain.Range.{Range}
use Rattle.emh_base.specs.declared.plain.Src.{Src}
use Rattle.emh_base.specs.declared.plain.Src.TheVariants as src
use Rattle.flatten_rules.specs.Lookup.{module_of, net_of}
use Rattle.named_tables.specs.NamedTable.{net_name, net_range, module_name}
use Rattle.vlog_read.specs.Bare.{name_at, bare_name, bare_span, bare_part, bare_conn, bare_item, bare_module}
use Rattle.vlog_read.specs.declared.tree.Header.TheVariants.{Names}
use Rattle.vlog_read.specs.declared.tree.Item.TheVariants.{Decl as Declaration, Insts}
use Rattle.vlog_read.specs.declared.tree.Part.TheVariants.{Name}
use Rattle.vlog_write.specs.TreeOf.{span_of, port_name, port_item, wire_item, wires, bit_part, source_part, are_whole, first_name, parts_of, conn_parts, conn_trees, inst_conns, inst_item, module_tree}

-- what stays as it is at each item stays at the list
map_still : {A B : Type 0} (f : B → B) (g : A → B) (xs : List A) → ((x : A) → f (g x) ≡ g x) → map f (map g xs) ≡ map g xs
map_still f g [] each = refl
map_still f g (x ∷ xs) each = ap₂ (λ y ys. y ∷ ys) (each x) (map_still f g xs each)

span : (range : Option Range) → option_map bare_span (span_of range) ≡ span_of range
span None = refl
span (Some range) = refl

bit : (name : List ℕ) (range : Option Range) (offset : ℕ) → bare_part (bit_part name range offset) ≡ bit_part name range offset
bit name None offset = refl
bit name (Some range) offset = refl

source : (m : PModule) (bit : Src) → bare_part (source_part m bit) ≡ source_part m bit
source m src.Tie0 = refl
source m src.Tie1 = refl
source m (src.Bit net offset) = bit (net_name (net_of m net)) (net_range (net_of m net)) offset

parts : (m : PModule) (bits : List Src) → map bare_part (parts_of m bits) ≡ parts_of m bits
parts m bits = by_whole (are_whole m bits)
  where
    by_whole : (b : Bool)
        → map bare_part (if b then Name (name_at (first_name m bits)) ∷ [] else map (source_part m) bits)
        ≡ (if b then Name (name_at (first_name m bits)) ∷ [] else map (source_part m) bits)
    by_whole true = refl
    by_whole false = map_still bare_part (source_part m) bits (source m)

expression : (m : PModule) (conn : Conn) → map bare_part (conn_parts m conn) ≡ conn_parts m conn
expression m plain_conn.Open = refl
expression m (plain_conn.Bits bits) = parts m bits

conns : (m master : PModule) (ports : List PPort) (cs : List Conn)
    → map bare_conn (conn_trees m master ports cs) ≡ conn_trees m master ports cs
conns m master [] cs = refl
conns m master (port ∷ ports) [] = refl
conns m master (port ∷ ports) (c ∷ cs) =
    ap₂ (λ ps more. record { at = 0; port = Some (name_at (port_name master port)); expr_at = 0; parts = ps } ∷ more)
    (expression m c) (conns m master ports cs)

of_inst : (m : PModule) (master : Option PModule) (cs : List Conn)
    → map bare_conn (inst_conns m master cs) ≡ inst_conns m master cs
of_inst m None cs = refl
of_inst m (Some master) cs = conns m master master.ports cs

inst : (M : Plain) (m : PModule) (i : PInst) → bare_item (inst_item M m i) ≡ inst_item M m i
inst M m i =
    ap (λ cs. Insts (name_at (module_name (module_of M i.master))) (record { name = name_at i.name; conns = cs } ∷ []))
    (of_inst m (module_of M i.master) i.conns)

port : (m : PModule) (p : PPort) → bare_item (port_item m p) ≡ port_item m p
port m p =
    ap (λ s. Declaration (record { dir = Some p.dir; wire = false; range = s; names = name_at (port_name m p) ∷ [] }))
    (span (net_range (net_of m p.net)))

wire : (net : PNet) → bare_item (wire_item net) ≡ wire_item net
wire net =
    ap (λ s. Declaration (record { dir = None; wire = true; range = s; names = name_at net.name ∷ [] })) (span net.range)

items : (M : Plain) (m : PModule) → map bare_item (module_tree M m).items ≡ (module_tree M m).items
items M m =
    let ports = map (port_item m) m.ports in
    let others = map wire_item (wires m) in
    let insts = map (inst_item M m) m.insts in
    map-append bare_item ports (others ++ insts)
    ∙ ap₂ (λ xs ys. xs ++ ys) (map_still bare_item (port_item m) m.ports (port m))
    (map-append bare_item others insts
    ∙ ap₂ (λ xs ys. xs ++ ys) (map_still bare_item wire_item (wires m) wire) (map_still bare_item (inst_item M m) m.insts (inst M m)))

pub module_bare : (M : Plain) (m : PModule) → bare_module (module_tree M m) ≡ module_tree M m
module_bare M m =
    ap₂ (λ ns is. record { name = name_at m.name; marked = m.leaf; header = Names ns; items = is })
    (map_still bare_name (λ (p : PPort). name_at (port_name m p)) m.ports (λ p. refl)) (items M m)

pub modules_bare : (M : Plain) (ms : List PModule) → map bare_module (map (module_tree M) ms) ≡ map (module_tree M) ms
modules_bare M ms = map_still bare_module (module_tree M) ms (module_bare M)
