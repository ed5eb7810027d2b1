-- The second round goes through a written module without a fault, and meets its nets and instances.
use Rattle.std.proofs.Common.{◌≡◌, ◌≢◌, ℕ, false, cond, List, [], ◌∷◌, ◌++◌, map, flat_map, get_or, Option, Some, None, IsSome, MatchOption, is_none, option_map, refl, sym, ap, ◌∙◌, subst, All, AllPairs, append_assoc}
use Rattle.std.specs.Prelude.{◌||◌}
use Rattle.std.specs.List.{list_any}
use Rattle.std.proofs.lemmas.List.{append-nil}
use Rattle.std.proofs.lemmas.Grind.{flat_map-append}
use Rattle.std.proofs.lemmas.List.Elements.{All-head, All-tail}
use Rattle.std.proofs.lemmas.List.Folds.{list_any-append}
use Rattle.emh_base.specs.declared.ids.NetId.{NetId}
use Rattle.emh_base.specs.declared.plain.Range.{Range}
use Rattle.emh_base.specs.declared.plain.Conn.{Conn}
use Rattle.emh_base.specs.declared.plain.PNet.{PNet}
use Rattle.emh_base.specs.declared.plain.PPort.{PPort}
use Rattle.emh_base.specs.declared.plain.PInst.{PInst}
use Rattle.emh_base.specs.declared.plain.PModule.{PModule}
use Rattle.emh_base.specs.declared.plain.Plain.{Plain}
use Rattle.emh_base.specs.declared.ids.ModId.{ModId}
use Rattle.flatten_rules.specs.Lookup.{module_of, net_of, width, width_of}
use Rattle.flatten_rules.specs.Sound.{IsSound, IsSoundModule, FitPorts, HasMaster}
use Rattle.flatten_rules.proofs.Sound.{master-there, sound-module}
use Rattle.flatten_rules.proofs.Walks.{some-there, none-there}
use Rattle.vlog_read.specs.declared.tree.At.{At}
use Rattle.vlog_read.specs.declared.tree.Span.{Span}
use Rattle.vlog_read.specs.declared.tree.TConn.{TConn}
use Rattle.vlog_elab.specs.declared.fault.ElabKind.TheVariants as kind
use Rattle.vlog_elab.specs.declared.interface.Port.{Port}
use Rattle.vlog_elab.specs.declared.interface.Interface.{Interface}
use Rattle.vlog_elab.specs.declared.scope.Net.{Net}
use Rattle.flatten_rules.specs.Check.{each_after}
use Rattle.vlog_elab.specs.Check.{check}
use Rattle.vlog_elab.specs.Named.{Named, named, is_there}
use Rattle.vlog_elab.specs.Interfaces.{row_port, row_port_on}
use Rattle.vlog_elab.specs.Steps.{Step, Declares, Places, conn_steps, item_steps, inst_steps}
use Rattle.vlog_elab.specs.Connections.{port_named, ports_named, is_implied}
use Rattle.vlog_elab.specs.inside.Walk.{Passed}
use Rattle.vlog_elab.specs.inside.Walks.{step_walk, with_new}
use Rattle.vlog_elab.proofs.Each.{pairs_head, pairs_tail}
use Rattle.vlog_elab.proofs.Row.{pairs_map}
use Rattle.vlog_elab.proofs.Naming.{there-append, there-one}
use Rattle.vlog_elab.proofs.Walking.{passed-none, passed-then}
use Rattle.named_tables.specs.NamedTable.{net_range, module_name}
use Rattle.named_tables.proofs.Names.{bytes_eq-other}
use Rattle.vlog_write.specs.TreeOf.{span_of, port_name, port_item, wire_item, wires, conn_tree, conn_trees, inst_conns, inst_item}
use Rattle.vlog_read.specs.Bare.{name_at}
use Rattle.read_back.proofs.Bits.{HasBits}
use Rattle.read_back.proofs.Conns.{row_port-name, fits-has, ports-differ, named-mapped}
use Rattle.read_back.proofs.Steps.{passed-cons, clear2, Knows, conn-passes}

-- names that are new, one after the other
abbrev pub Fresh : {V : Type 0} → Named V → Named V → Type 0
Fresh ns [] = Unit {0}
Fresh ns (e ∷ es) = (is_there ns e.0 ≡ false) × Fresh (ns ++ e ∷ []) es

pub fresh-from : {V : Type 0} (ns es : Named V) → All (λ (e : List ℕ × V). is_there ns e.0 ≡ false) es → AllPairs (λ (a b : List ℕ × V). a.0 ≢ b.0) es → Fresh ns es
fresh-from ns [] new differ = tt
fresh-from {V} ns (e ∷ es) new differ =
    let New : List ℕ × V → Type 0 = λ f. is_there ns f.0 ≡ false in
    let R : List ℕ × V → List ℕ × V → Type 0 = λ a b. a.0 ≢ b.0 in (
      All-head New e es new,
      fresh-from (ns ++ e ∷ []) es
          (λ k d within.
          let f : List ℕ × V = get_or es k d in
          let other : e.0 ≢ f.0 = pairs_head R e es differ k d within in
          there-append ns (e ∷ []) f.0
          ∙ ap (λ b. b || is_there (e ∷ []) f.0) (All-tail New e es new k d within)
          ∙ there-one e f.0 ∙ bytes_eq-other f.0 e.0 (λ same. other (sym same)))
          (pairs_tail R e es differ),
    )

-- Declarations.

abbrev pub entry : List ℕ × Option Range → List ℕ × Net
entry r = (r.0, record { range = r.1; implied = false })

abbrev pub declare : List ℕ × Option Range → Step
declare r = Declares (name_at r.0) r.1

pub declares-pass : (ns : Named Net) (rs : List (List ℕ × Option Range)) → Fresh ns (map entry rs)
    → Passed step_walk (record { nets = ns; insts = [] }) (map declare rs) (record { nets = ns ++ map entry rs; insts = [] })
declares-pass ns [] new =
    let At : Named Net → Type 0 = λ es. Passed step_walk (record { nets = ns; insts = [] }) [] (record { nets = es; insts = [] }) in
    subst At (sym (append-nil ns)) passed-none
declares-pass ns (r ∷ rs) new =
    let At : Named Net → Type 0 = λ es. Passed step_walk (record { nets = ns; insts = [] }) (map declare (r ∷ rs)) (record { nets = es; insts = [] }) in
    let none : named ns r.0 ≡ None = none-there (named ns r.0) new.0 in
    subst At (append_assoc ns (entry r ∷ []) (map entry rs))
    (passed-cons step_walk (record { nets = ns; insts = [] }) (record { nets = ns ++ entry r ∷ []; insts = [] }) (record { nets = (ns ++ entry r ∷ []) ++ map entry rs; insts = [] }) (declare r) (map declare rs)
    (clear2 (check kind.LateDeclaration (name_at r.0) (is_implied (named ns r.0))) (check kind.NameTaken (name_at r.0) false) (ap is_implied none) refl)
    (let e : with_new ns (entry r ∷ []) ≡ ns ++ entry r ∷ [] = ap (λ b. cond b ns (ns ++ entry r ∷ [])) new.0 in λ i. record { nets = e i; insts = [] })
    (declares-pass (ns ++ entry r ∷ []) rs new.1))

pub span-back : (range : Option Range) → option_map (λ (s : Span). s.range) (span_of range) ≡ range
span-back None = refl
span-back (Some r) = refl

abbrev pub port_range : PModule → PPort → List ℕ × Option Range
port_range m port = (port_name m port, net_range (net_of m port.net))

abbrev pub wire_range : PNet → List ℕ × Option Range
wire_range net = (net.name, net.range)

-- the nets of a module as they are declared
abbrev pub all_ranges : PModule → List (List ℕ × Option Range)
all_ranges m = map (port_range m) m.ports ++ map wire_range (wires m)

pub port-steps : (fs : Named Interface) (m : PModule) (ports : List PPort) → flat_map (item_steps fs) (map (port_item m) ports) ≡ map declare (map (port_range m) ports)
port-steps fs m [] = refl
port-steps fs m (port ∷ ports) =
    ap (λ range. Declares (name_at (port_name m port)) range ∷ flat_map (item_steps fs) (map (port_item m) ports)) (span-back (net_range (net_of m port.net)))
    ∙ ap (λ rest. declare (port_range m port) ∷ rest) (port-steps fs m ports)

pub wire-steps : (fs : Named Interface) (nets : List PNet) → flat_map (item_steps fs) (map wire_item nets) ≡ map declare (map wire_range nets)
wire-steps fs [] = refl
wire-steps fs (net ∷ nets) =
    ap (λ range. Declares (name_at net.name) range ∷ flat_map (item_steps fs) (map wire_item nets)) (span-back net.range)
    ∙ ap (λ rest. declare (wire_range net) ∷ rest) (wire-steps fs nets)

-- Connections of an instance.

module _ (m : PModule) (ns : Named Net) (is : Named (Unit {0})) (knows : Knows m ns is) (master : PModule) (fports : Named Port) (inst : At) where
  abbrev port_key : PPort → List ℕ × Unit {0}
  port_key port = (port_name master port, tt)

  pub conns-pass : (before : List TConn) (ports : List PPort) (conns : List Conn) → All (λ (port : PPort). named fports (port_name master port) ≡ Some (row_port master port).1) ports
      → list_any (λ (d : TConn). is_none d.port) before ≡ false → Fresh (ports_named before) (map port_key ports) → FitPorts m master ports conns
      → All (λ (port : PPort). IsSome (net_of master port.net)) ports
      → Passed step_walk (record { nets = ns; insts = is }) (each_after (conn_steps fports inst) before (conn_trees m master ports conns)) (record { nets = ns; insts = is })
  conns-pass before [] conns known unmixed new fits there = passed-none
  conns-pass before (port ∷ ports) [] known unmixed new fits there = absurd fits
  conns-pass before (port ∷ ports) (c ∷ conns) known unmixed new fits there =
      let Known : PPort → Type 0 = λ port. named fports (port_name master port) ≡ Some (row_port master port).1 in
      let There : PPort → Type 0 = λ port. IsSome (net_of master port.net) in
      let q : List ℕ = port_name master port in
      let tree : TConn = conn_tree m q c in
      let net = some-there (net_of master port.net) (All-head There port ports there) in
      let wide : width_of (net_of master port.net) ≡ width (row_port master port).1.range = ap width_of net.1 ∙ sym (ap (λ o. width (row_port_on port.dir o).1.range) net.1) in
      let has : HasBits m c (width (row_port master port).1.range) = subst (HasBits m c) wide (fits-has m master port c fits.0) in
      let unmixed_more : list_any (λ (d : TConn). is_none d.port) (before ++ tree ∷ []) ≡ false = list_any-append (λ (d : TConn). is_none d.port) before (tree ∷ []) ∙ ap (λ b. b || false) unmixed in
      let named_more : ports_named before ++ (q, tt) ∷ [] ≡ ports_named (before ++ tree ∷ []) = sym (flat_map-append (λ (d : TConn). port_named d.port) before (tree ∷ [])) in
      let New : Named (Unit {0}) → Type 0 = λ es. Fresh es (map port_key ports) in
      passed-then (conn-passes m ns is knows fports inst before q (row_port master port).1 c (All-head Known port ports known) unmixed new.0 has)
      (conns-pass (before ++ tree ∷ []) ports conns (All-tail Known port ports known) unmixed_more (subst New named_more new.1) fits.1 (All-tail There port ports there))

-- What is known of the modules: each master has a interface with its ports.
pub record HasFaces (M : Plain) (fs : Named Interface) : Type 0 where
  pub at : (id : ModId) (master : PModule) → module_of M id ≡ Some master → (interface : Interface) × (named fs master.name ≡ Some interface) × (interface.ports ≡ map (row_port master) master.ports)

ports-known : (M : Plain) (master : PModule) → IsSoundModule M master → All (λ (port : PPort). named (map (row_port master) master.ports) (port_name master port) ≡ Some (row_port master port).1) master.ports
ports-known M master s k d within =
    let port : PPort = get_or master.ports k d in
    let differ : AllPairs (λ (a b : PPort). (row_port master a).0 ≢ (row_port master b).0) master.ports = λ i j e low high.
    let other = ports-differ M master s i j e low high in
    λ same. other (sym (row_port-name master (get_or master.ports i e)) ∙ same ∙ row_port-name master (get_or master.ports j e)) in
    ap (named (map (row_port master) master.ports)) (sym (row_port-name master port)) ∙ named-mapped (row_port master) master.ports differ k d within

all-nothing : {X : Type 0} (f : X → List ℕ × Unit {0}) (xs : List X) → All (λ (e : List ℕ × Unit {0}). is_there {V = Unit {0}} [] e.0 ≡ false) (map f xs)
all-nothing f xs k d within = refl

-- An instance.

abbrev pub inst_key : PInst → List ℕ × Unit {0}
inst_key inst = (inst.name, tt)

module _ (M : Plain) (sound : IsSound M) (fs : Named Interface) (interfaces : HasFaces M fs) (m : PModule) (ns : Named Net) where
  inst-passes : (is : Named (Unit {0})) (inst : PInst) → HasMaster M m inst → Knows m ns (is ++ inst_key inst ∷ []) → is_there ns inst.name ≡ false → is_there is inst.name ≡ false
      → Passed step_walk (record { nets = ns; insts = is }) (item_steps fs (inst_item M m inst)) (record { nets = ns; insts = is ++ inst_key inst ∷ [] })
  inst-passes is inst has knows no_net no_inst =
      let there = some-there (module_of M inst.master) (master-there M m inst has) in
      let master : PModule = there.0 in
      let s : IsSoundModule M master = sound-module M inst.master master sound there.1 in
      let interface = interfaces.at inst.master master there.1 in
      let fits : FitPorts m master master.ports inst.conns = subst (λ (o : Option PModule). MatchOption o ⊥ (λ x. FitPorts m x x.ports inst.conns)) there.1 has in
      let At : Option PModule → Type 0 = λ o. Passed step_walk (record { nets = ns; insts = is })
      (inst_steps (named fs (module_name o)) (name_at (module_name o)) (record { name = name_at inst.name; conns = inst_conns m o inst.conns }) ++ []) (record { nets = ns; insts = is ++ inst_key inst ∷ [] }) in
      let Of : Option Interface → Type 0 = λ o. Passed step_walk (record { nets = ns; insts = is })
      (inst_steps o (name_at master.name) (record { name = name_at inst.name; conns = conn_trees m master master.ports inst.conns }) ++ []) (record { nets = ns; insts = is ++ inst_key inst ∷ [] }) in
      subst At (sym there.1) (subst Of (sym interface.1)
      (subst (λ xs. Passed step_walk (record { nets = ns; insts = is }) xs (record { nets = ns; insts = is ++ inst_key inst ∷ [] }))
      (sym (append-nil (inst_steps (Some interface.0) (name_at master.name) (record { name = name_at inst.name; conns = conn_trees m master master.ports inst.conns }))))
      (passed-cons step_walk (record { nets = ns; insts = is }) (record { nets = ns; insts = is ++ inst_key inst ∷ [] }) (record { nets = ns; insts = is ++ inst_key inst ∷ [] })
      (Places (Some interface.0) (name_at master.name) (name_at inst.name)) (each_after (conn_steps interface.0.ports (name_at inst.name)) [] (conn_trees m master master.ports inst.conns))
      (clear2 (check kind.UnknownModule (name_at master.name) false) (check kind.NameTaken (name_at inst.name) (is_there ns inst.name || is_there is inst.name)) refl
      (ap (λ b. b || is_there is inst.name) no_net ∙ no_inst))
      refl
      (conns-pass m ns (is ++ inst_key inst ∷ []) knows master interface.0.ports (name_at inst.name) [] master.ports inst.conns
      (subst (λ (ports : Named Port). All (λ (port : PPort). named ports (port_name master port) ≡ Some (row_port master port).1) master.ports) (sym interface.2) (ports-known M master s))
      refl
      (fresh-from [] (map (λ (port : PPort). (port_name master port, tt)) master.ports) (all-nothing (λ (port : PPort). (port_name master port, tt)) master.ports)
      (pairs_map (λ (a b : List ℕ × Unit {0}). a.0 ≢ b.0) (λ (port : PPort). (port_name master port, tt)) master.ports (ports-differ M master s)))
      fits s.ports_there))))

  -- all instances, one after the other
  pub insts-pass : (is : Named (Unit {0})) (insts : List PInst) → All (HasMaster M m) insts → Knows m ns is → Fresh is (map inst_key insts)
      → All (λ (inst : PInst). is_there ns inst.name ≡ false) insts
      → ((id : NetId) (net : PNet) → net_of m id ≡ Some net → All (λ (inst : PInst). net.name ≢ inst.name) insts)
      → Passed step_walk (record { nets = ns; insts = is }) (flat_map (item_steps fs) (map (inst_item M m) insts)) (record { nets = ns; insts = is ++ map inst_key insts })
  insts-pass is [] masters knows new no_net apart =
      subst (λ (js : Named (Unit {0})). Passed step_walk (record { nets = ns; insts = is }) [] (record { nets = ns; insts = js })) (sym (append-nil is)) passed-none
  insts-pass is (inst ∷ insts) masters knows new no_net apart =
      let NoNet : PInst → Type 0 = λ inst. is_there ns inst.name ≡ false in
      let more : Knows m ns (is ++ inst_key inst ∷ []) = record {
        declared = knows.declared;
        apart = λ id net at.
            there-append is (inst_key inst ∷ []) net.name ∙ ap (λ b. b || is_there (inst_key inst ∷ []) net.name) (knows.apart id net at)
            ∙ there-one (inst_key inst) net.name ∙ bytes_eq-other net.name inst.name (All-head (λ (inst : PInst). net.name ≢ inst.name) inst insts (apart id net at));
      } in
      subst (λ (js : Named (Unit {0})). Passed step_walk (record { nets = ns; insts = is }) (flat_map (item_steps fs) (map (inst_item M m) (inst ∷ insts))) (record { nets = ns; insts = js }))
      (append_assoc is (inst_key inst ∷ []) (map inst_key insts))
      (passed-then (inst-passes is inst (All-head (HasMaster M m) inst insts masters) more (All-head NoNet inst insts no_net) new.0)
      (insts-pass (is ++ inst_key inst ∷ []) insts (All-tail (HasMaster M m) inst insts masters) more new.1 (All-tail NoNet inst insts no_net)
      (λ id net at. All-tail (λ (inst : PInst). net.name ≢ inst.name) inst insts (apart id net at))))
