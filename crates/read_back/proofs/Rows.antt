-- The table that is made is the one that was written, by names.
use Rattle.std.proofs.Common.{arith, ◌≡◌, ◌≢◌, ℕ, ◌+◌, ◌≤◌, Bool, true, false, cond, List, [], ◌∷◌, ◌++◌, map, flat_map, find, length, Option, Some, None, IsSome, is_some, MatchOption, option_map, bytes_eq, refl, sym, ap, ◌∙◌, subst, All}
use Rattle.std.proofs.lemmas.Cmp.{nat_list_eq_equiv}
use Rattle.std.proofs.lemmas.Slice.Eq.{bytes_eq-Decides}
use Rattle.std.proofs.lemmas.Grind.{flat_map-append}
use Rattle.std.proofs.lemmas.List.Elements.{All-head, All-tail, All-map}
use Rattle.emh_base.specs.declared.ids.ModId.{ModId}
use Rattle.emh_base.specs.declared.ids.NetId.{NetId}
use Rattle.emh_base.specs.declared.plain.Range.{Range}
use Rattle.emh_base.specs.declared.plain.PNet.{PNet}
use Rattle.emh_base.specs.declared.plain.PPort.{PPort}
use Rattle.emh_base.specs.declared.plain.PInst.{PInst}
use Rattle.emh_base.specs.declared.plain.PModule.{PModule}
use Rattle.emh_base.specs.declared.plain.Plain.{Plain}
use Rattle.flatten_rules.specs.Lookup.{module_of, net_of}
use Rattle.flatten_rules.specs.Sound.{IsSound, IsSoundModule, HasMaster, FitPorts}
use Rattle.flatten_rules.proofs.Sound.{sound-module, master-there}
use Rattle.flatten_rules.proofs.Walks.{some-there, find-own, find-passes}
use Rattle.vlog_read.specs.declared.tree.At.{At}
use Rattle.vlog_read.specs.declared.tree.TInst.{TInst}
use Rattle.vlog_read.specs.declared.tree.TModule.{TModule}
use Rattle.vlog_elab.specs.declared.interface.Interface.{Interface}
use Rattle.vlog_elab.specs.declared.interface.Port.{Port}
use Rattle.vlog_elab.specs.declared.scope.Net.{Net}
use Rattle.vlog_elab.specs.Named.{Named, named, is_there, numbered}
use Rattle.vlog_elab.specs.Interfaces.{ports, row_port}
use Rattle.vlog_elab.specs.Steps.{ports_of}
use Rattle.vlog_elab.specs.Table.{nets, net_id, insts_in, insts, master_id, conns_of, inst_row, net_row, port_row, row}
use Rattle.vlog_elab.proofs.Row.{net_by_name}
use Rattle.named_tables.specs.NamedTable.{net_name, net_range, module_name, net_named, named_port, named_conn, named_inst, named_module}
use Rattle.named_tables.proofs.Names.{found-at, net-own}
use Rattle.vlog_write.specs.TreeOf.{port_name, port_item, wire_item, wires, inst_conns, inst_tree, inst_item, module_tree, in_written_order}
use Rattle.vlog_read.specs.Bare.{name_at}
use Rattle.read_back.proofs.Bits.{Keeps}
use Rattle.read_back.proofs.Conns.{conns-back}
use Rattle.read_back.proofs.Modules.{entry, all_ranges}
use Rattle.read_back.proofs.Nets.{absent, ranges-nets, range-known, nets-made}
use Rattle.read_back.proofs.Inside.{dir_entry, inside-none}
use Rattle.read_back.proofs.Rounds.{faces_of, has-interfaces}

turned : (a b : List ℕ) → bytes_eq a b ≡ bytes_eq b a
turned a b = nat_list_eq_equiv.symm a b

-- the nets of a row, found by name
rows-look : (n : ℕ) (ns : Named Net) (q : List ℕ) → option_map (λ (net : PNet). net.range) (find (λ (net : PNet). bytes_eq net.name q) (numbered net_row n ns)) ≡ option_map (λ (net : Net). net.range) (named ns q)
rows-look n [] q = refl
rows-look n (e ∷ ns) q =
    ap (λ b. option_map (λ (net : PNet). net.range) (cond b (Some (net_row n e)) (find (λ (net : PNet). bytes_eq net.name q) (numbered net_row (n + 1) ns)))) (turned e.0 q)
    ∙ at_b (rows-look (n + 1) ns q) (bytes_eq q e.0)
  where
    at_b : option_map (λ (net : PNet). net.range) (find (λ (net : PNet). bytes_eq net.name q) (numbered net_row (n + 1) ns)) ≡ option_map (λ (net : Net). net.range) (named ns q)
        → (b : Bool) → option_map (λ (net : PNet). net.range) (cond b (Some (net_row n e)) (find (λ (net : PNet). bytes_eq net.name q) (numbered net_row (n + 1) ns))) ≡ option_map (λ (net : Net). net.range) (cond b (Some e.1) (named ns q))
    at_b more true = refl
    at_b more false = more

none-named : {V : Type 0} (es : Named V) (q : List ℕ) → is_there es q ≡ false → named es q ≡ None
none-named es q h = at_o (named es q) h
  where
    at_o : {V : Type 0} (o : Option V) → is_some o ≡ false → o ≡ None
    at_o None h = refl
    at_o (Some x) h = absurd (cc)

-- the instances of a written module
abbrev pub item_of : Plain → PModule → PInst → At × TInst
item_of M m inst = (name_at (module_name (module_of M inst.master)), inst_tree M m inst)

pub insts-made : (M : Plain) (m : PModule) → insts (module_tree M m) ≡ map (item_of M m) m.insts
insts-made M m =
    flat_map-append insts_in (map (port_item m) m.ports) (map wire_item (wires m) ++ map (inst_item M m) m.insts)
    ∙ ap (λ xs. flat_map insts_in (map (port_item m) m.ports) ++ xs) (flat_map-append insts_in (map wire_item (wires m)) (map (inst_item M m) m.insts))
    ∙ ap (λ xs. xs ++ (flat_map insts_in (map wire_item (wires m)) ++ flat_map insts_in (map (inst_item M m) m.insts))) (no-ports m.ports)
    ∙ ap (λ xs. xs ++ flat_map insts_in (map (inst_item M m) m.insts)) (no-wires (wires m))
    ∙ each m.insts
  where
    no-ports : (ps : List PPort) → flat_map insts_in (map (port_item m) ps) ≡ []
    no-ports [] = refl
    no-ports (p ∷ ps) = no-ports ps

    no-wires : (ws : List PNet) → flat_map insts_in (map wire_item ws) ≡ []
    no-wires [] = refl
    no-wires (w ∷ ws) = no-wires ws

    each : (is : List PInst) → flat_map insts_in (map (inst_item M m) is) ≡ map (item_of M m) is
    each [] = refl
    each (i ∷ is) = ap (λ xs. item_of M m i ∷ xs) (each is)

-- what the table that is made has of a master
pub record HasRows (M : Plain) (fs : Named Interface) (B : Plain) : Type 0 where
  pub at : (id : ModId) (master : PModule) → module_of M id ≡ Some master → (interface : Interface) × (named fs master.name ≡ Some interface) × (interface.ports ≡ map (row_port master) master.ports) × (module_name (module_of B interface.id) ≡ master.name)

module _ (M : Plain) (sound : IsSound M) (few : length M.modules ≤ 4294967295) (B : Plain) (rows : HasRows M (faces_of M 0 (in_written_order M)) B) (m : PModule) (s : IsSoundModule M m) (k : ℕ) where
  abbrev fs : Named Interface
  fs = faces_of M 0 (in_written_order M)

  abbrev tm : TModule
  tm = module_tree M m

  abbrev R : PModule
  R = row (faces_of M 0 (in_written_order M)) false k (module_tree M m)

  made : nets (module_tree M m) ≡ map entry (all_ranges m)
  made = nets-made M m s (faces_of M 0 (in_written_order M)) sound (has-interfaces M sound few)

  found : (id : NetId) (net : PNet) → net_of m id ≡ Some net → named (nets (module_tree M m)) net.name ≡ Some (record { range = net.range; implied = false })
  found id net at = ap (λ (ns : Named Net). named ns net.name) made ∙ range-known M m s id net at

  row-at : (q : List ℕ) (net : Net) → named (nets (module_tree M m)) q ≡ Some net → (net_name (net_of R (net_id (nets (module_tree M m)) q)) ≡ q) × (net_range (net_of R (net_id (nets (module_tree M m)) q)) ≡ net.range)
  row-at q net at = let is = net_by_name (faces_of M 0 (in_written_order M)) false k (module_tree M m) q net at in (ap net_name is.3, ap net_range is.3)

  keeps : Keeps m (nets (module_tree M m)) (row (faces_of M 0 (in_written_order M)) false k (module_tree M m))
  keeps = record { declared = found; rows = λ id net at. (row-at net.name (record { range = net.range; implied = false }) (found id net at)).0 }

  port-back : (port : PPort) → IsSome (net_of m port.net) → named_port R (port_row (nets (module_tree M m)) (dir_entry m port)) ≡ named_port m port
  port-back port there =
      let net = some-there (net_of m port.net) there in
      let at : named (nets (module_tree M m)) (port_name m port) ≡ Some (record { range = net_range (net_of m port.net); implied = false }) =
      ap (λ o. named (nets (module_tree M m)) (net_name o)) net.1 ∙ found port.net net.0 net.1 ∙ sym (ap (λ o. Some (record { range = net_range o; implied = false })) net.1) in
      let is = row-at (port_name m port) (record { range = net_range (net_of m port.net); implied = false }) at in
      λ i. record { name = is.0 i; dir = port.dir; range = is.1 i }

  ports-back : map (named_port R) (map (port_row (nets (module_tree M m))) (ports (module_tree M m))) ≡ map (named_port m) m.ports
  ports-back = ap (λ (ps : Named Port). map (named_port R) (map (port_row (nets (module_tree M m))) ps)) (sym (inside-none M m s).1) ∙ each m.ports s.ports_there
    where
      each : (ps : List PPort) → All (λ (port : PPort). IsSome (net_of m port.net)) ps → map (named_port R) (map (port_row (nets (module_tree M m))) (map (dir_entry m) ps)) ≡ map (named_port m) ps
      each [] all = refl
      each (p ∷ ps) all =
          let h = port-back p (All-head (λ (port : PPort). IsSome (net_of m port.net)) p ps all) in
          let t = each ps (All-tail (λ (port : PPort). IsSome (net_of m port.net)) p ps all) in
          λ i. h i ∷ t i

  nets-back : (q : List ℕ) → option_map (λ (net : PNet). net.range) (net_named R q) ≡ option_map (λ (net : PNet). net.range) (net_named m q)
  nets-back q = rows-look 0 (nets (module_tree M m)) q ∙ at_o (net_named m q) refl
    where
      at_o : (o : Option PNet) → net_named m q ≡ o → option_map (λ (net : Net). net.range) (named (nets (module_tree M m)) q) ≡ option_map (λ (net : PNet). net.range) o
      at_o (Some net) e =
          let place = found-at (λ (n : PNet). bytes_eq n.name q) m.nets net e in
          let name : net.name ≡ q = let passes = find-passes (λ (n : PNet). bytes_eq n.name q) m.nets net e in grind (arith, bytes_eq-Decides) in
          let own : net_of m net.id ≡ Some net = subst (λ (x : PNet). net_of m x.id ≡ Some x) place.2 (find-own (λ (x : PNet). x.id.0) m.nets s.nets_rise place.0 net place.1) in
          ap (λ r. option_map (λ (net : Net). net.range) (named (nets (module_tree M m)) r)) (sym name) ∙ ap (option_map (λ (net : Net). net.range)) (found net.id net own)
      at_o None e =
          let all : All (λ (x : List ℕ × Net). x.0 ≢ q) (map entry (all_ranges m)) = All-map (λ (x : List ℕ × Net). x.0 ≢ q) entry (all_ranges m) (λ k d low.
          let n = ranges-nets M m s k d low in
          λ same.
          let name : n.net.name ≡ q = sym (ap (λ (r : List ℕ × Option Range). r.0) n.is) ∙ same in
          let own : net_named m q ≡ Some n.net = subst (λ (r : List ℕ). net_named m r ≡ Some n.net) name (net-own M m n.id n.net s n.at) in
          let never : None ≡ Some n.net = sym e ∙ own in absurd (cc)) in
          ap (λ (ns : Named Net). option_map (λ (net : Net). net.range) (named ns q)) made
          ∙ ap (option_map (λ (net : Net). net.range)) (none-named (map entry (all_ranges m)) q (absent (map entry (all_ranges m)) q all))

  inst-back : (n : ℕ) (inst : PInst) → HasMaster M m inst → named_inst B R (inst_row fs (nets (module_tree M m)) n (item_of M m inst)) ≡ named_inst M m inst
  inst-back n inst has =
      let there = some-there (module_of M inst.master) (master-there M m inst has) in
      let x : PModule = there.0 in
      let interface = rows.at inst.master x there.1 in
      let fits : FitPorts m x x.ports inst.conns = subst (λ (o : Option PModule). MatchOption o ⊥ (λ y. FitPorts m y y.ports inst.conns)) there.1 has in
      let name : module_name (module_of B (master_id (named fs (module_name (module_of M inst.master))))) ≡ module_name (module_of M inst.master) =
      ap (λ o. module_name (module_of B (master_id (named fs (module_name o))))) there.1 ∙ ap (λ o. module_name (module_of B (master_id o))) interface.1 ∙ interface.3 ∙ sym (ap module_name there.1) in
      let conns : map (named_conn R) (conns_of (nets (module_tree M m)) (ports_of (named fs (module_name (module_of M inst.master)))) (inst_conns m (module_of M inst.master) inst.conns)) ≡ map (named_conn m) inst.conns =
      ap (λ o. map (named_conn R) (conns_of (nets (module_tree M m)) (ports_of (named fs (module_name o))) (inst_conns m o inst.conns))) there.1
      ∙ ap (λ o. map (named_conn R) (conns_of (nets (module_tree M m)) (ports_of o) (inst_conns m (Some x) inst.conns))) interface.1
      ∙ ap (λ (ps : Named Port). map (named_conn R) (conns_of (nets (module_tree M m)) ps (inst_conns m (Some x) inst.conns))) interface.2
      ∙ conns-back M m x (nets (module_tree M m)) R inst.conns keeps (sound-module M inst.master x sound there.1) fits in
      λ i. record { name = inst.name; master = name i; conns = conns i }

  insts-back : map (named_inst B R) (numbered (inst_row fs (nets (module_tree M m))) 0 (insts (module_tree M m))) ≡ map (named_inst M m) m.insts
  insts-back = ap (λ (is : List (At × TInst)). map (named_inst B R) (numbered (inst_row fs (nets (module_tree M m))) 0 is)) (insts-made M m) ∙ each 0 m.insts s.masters
    where
      each : (n : ℕ) (is : List PInst) → All (HasMaster M m) is → map (named_inst B R) (numbered (inst_row fs (nets (module_tree M m))) n (map (item_of M m) is)) ≡ map (named_inst M m) is
      each n [] all = refl
      each n (inst ∷ is) all =
          let h = inst-back n inst (All-head (HasMaster M m) inst is all) in
          let t = each (n + 1) is (All-tail (HasMaster M m) inst is all) in
          λ i. h i ∷ t i

  -- the row of a written module is the module, by names
  pub row-back : named_module B (row (faces_of M 0 (in_written_order M)) false k (module_tree M m)) ≡ named_module M m
  row-back =
      let ps = ports-back in
      let ns = nets-back in
      let is = insts-back in
      λ i. record { leaf = m.leaf; ports = ps i; nets = λ q. ns q i; insts = is i }
