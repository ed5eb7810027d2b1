-- The first round meets no fault inside a written module, whose ports are those of the table.
use Rattle.std.proofs.Common.{arith, ◌≡◌, ◌≢◌, ℕ, ◌≤◌, ◌==◌, nat_lt, Bool, true, false, List, [], ◌∷◌, ◌++◌, map, flat_map, get_or, Option, Some, None, IsSome, IsTrue, is_some, option_map, unwrap_or, refl, sym, ap, ◌∙◌, subst, All, append_assoc, true≢false}
use Rattle.std.specs.Prelude.{◌&&◌, ◌||◌, not, Ok}
use Rattle.std.proofs.lemmas.Bool.Decides.{nat_tests}
use Rattle.std.proofs.lemmas.List.{append-nil}
use Rattle.std.proofs.lemmas.Grind.{flat_map-append}
use Rattle.std.proofs.lemmas.List.Elements.{All-head, All-tail, All-filter, All-nil, All-map, filter_passes}
use Rattle.emh_base.specs.declared.plain.Dir.TheVariants.{Input}
use Rattle.emh_base.specs.declared.plain.Range.{Range}
use Rattle.emh_base.specs.declared.plain.PNet.{PNet}
use Rattle.emh_base.specs.declared.plain.PPort.{PPort}
use Rattle.emh_base.specs.declared.plain.PInst.{PInst}
use Rattle.emh_base.specs.declared.plain.PModule.{PModule}
use Rattle.emh_base.specs.declared.plain.Plain.{Plain}
use Rattle.flatten_rules.specs.Lookup.{net_of, port_of as port_at, width}
use Rattle.flatten_rules.specs.Sound.{IsAllowed, IsSoundModule, IsCell}
use Rattle.flatten_rules.proofs.Sound.{All-find}
use Rattle.flatten_rules.proofs.Walks.{some-there, none-there}
use Rattle.vlog_read.specs.declared.tree.At.{At}
use Rattle.vlog_elab.specs.declared.fault.ElabKind.TheVariants as kind
use Rattle.vlog_elab.specs.declared.interface.Port.{Port}
use Rattle.vlog_elab.specs.declared.said.Said.{Said}
use Rattle.flatten_rules.specs.Check.{first_broken}
use Rattle.vlog_elab.specs.Check.{check, check_at}
use Rattle.vlog_elab.specs.Named.{Named, named, is_there}
use Rattle.vlog_elab.specs.Interfaces.{Place, Ranged, Directed, Wired, Placed, range_places, item_places, places, said, ports, row_port, row_port_on}
use Rattle.vlog_elab.specs.Declarations.{differs_from_direction, inside_checks}
use Rattle.vlog_elab.specs.inside.Walk.{Passed}
use Rattle.vlog_elab.specs.inside.Walks.{header_walk, place_walk, port_walk}
use Rattle.vlog_elab.proofs.Row.{pairs_map}
use Rattle.vlog_elab.proofs.Walking.{passed-none, passed-then}
use Rattle.vlog_elab.proofs.Declaring.{ports-give}
use Rattle.named_tables.specs.NamedTable.{net_name, net_range}
use Rattle.vlog_write.specs.TreeOf.{span_of, port_name, port_item, wire_item, wires, inst_item, module_tree}
use Rattle.vlog_read.specs.Bare.{name_at}
use Rattle.read_back.proofs.Conns.{ports-differ, named-mapped}
use Rattle.read_back.proofs.Steps.{passed-cons, clear1, clear2, clear3}
use Rattle.read_back.proofs.Modules.{Fresh, fresh-from, span-back, wire_range}
use Rattle.read_back.proofs.Nets.{absent, pairs-filter, wires-none, wires-own, wire-apart}
use Rattle.named_tables.proofs.Names.{nets-differ}

abbrev pub port_key : PModule → PPort → List ℕ × Unit {0}
port_key m port = (port_name m port, tt)

abbrev pub header_name : PModule → PPort → At
header_name m port = name_at (port_name m port)

-- the direction that is declared of a port
abbrev pub dir_entry : PModule → PPort → List ℕ × Port
dir_entry m port = (port_name m port, record { dir = port.dir; range = net_range (net_of m port.net) })

pub row_port-is : (m : PModule) (port : PPort) → row_port m port ≡ dir_entry m port
row_port-is m port = at_o (net_of m port.net)
  where
    at_o : (o : Option PNet) → row_port_on port.dir o ≡ (net_name o, record { dir = port.dir; range = net_range o })
    at_o None = refl
    at_o (Some net) = refl

header-pass : (m : PModule) (before : Named (Unit {0})) (ps : List PPort) → Fresh before (map (port_key m) ps) → Passed header_walk before (map (header_name m) ps) (before ++ map (port_key m) ps)
header-pass m before [] new = subst (λ (t : Named (Unit {0})). Passed header_walk before [] t) (sym (append-nil before)) passed-none
header-pass m before (port ∷ ps) new =
    subst (λ (t : Named (Unit {0})). Passed header_walk before (map (header_name m) (port ∷ ps)) t) (append_assoc before (port_key m port ∷ []) (map (port_key m) ps))
    (passed-cons header_walk before (before ++ port_key m port ∷ []) ((before ++ port_key m port ∷ []) ++ map (port_key m) ps) (header_name m port) (map (header_name m) ps)
    (clear1 (check kind.PortTwice (header_name m port) (is_there before (port_name m port))) new.0) refl
    (header-pass m (before ++ port_key m port ∷ []) ps new.1))

module _ (leaf : Bool) (h : Named (Unit {0})) where
  abbrev at_said : Named Port → Named (Option Range) → Said
  at_said D W = record { directions = D; wires = W }

  same-said : (D D' : Named Port) (W W' : Named (Option Range)) → D ≡ D' → W ≡ W' → ◌≡◌ {A = Said} (record { directions = D; wires = W }) (record { directions = D'; wires = W' })
  same-said D D' W W' e f = λ i. record { directions = e i; wires = f i }

  ranged-pass : (D : Named Port) (W : Named (Option Range)) (range : Option Range) (q : List ℕ) → IsAllowed range → Passed (place_walk leaf h) (at_said D W) (range_places (span_of range) (name_at q ∷ [])) (at_said D W)
  ranged-pass D W None q allowed = passed-none
  ranged-pass D W (Some r) q allowed =
      passed-cons (place_walk leaf h) (at_said D W) (at_said D W) (at_said D W) (Ranged (record { range = r; at = 0 }) (name_at q)) []
      (clear2 (check_at kind.BadIndex 0 q (nat_lt 65535 r.left || nat_lt 65535 r.right)) (check_at kind.TooWide 0 q (nat_lt 4096 (width (Some r))))
      (neither (nat_lt 65535 r.left) (nat_lt 65535 r.right) (low 65535 r.left allowed.0) (low 65535 r.right allowed.1)) (low 4096 (width (Some r)) allowed.2))
      (same-said (D ++ []) D (W ++ []) W (append-nil D) (append-nil W)) passed-none
    where
      low : (limit n : ℕ) → n ≤ limit → nat_lt limit n ≡ false
      low limit n le = grind (arith, nat_tests)

      neither : (a b : Bool) → a ≡ false → b ≡ false → (a || b) ≡ false
      neither a b e f = rw (e, f) refl

  directions-pass : (m : PModule) (D : Named Port) (ps : List PPort) → Fresh D (map (dir_entry m) ps) → All (λ (port : PPort). is_there h (port_name m port) ≡ true) ps
      → All (λ (port : PPort). IsAllowed (net_range (net_of m port.net))) ps
      → Passed (place_walk leaf h) (at_said D []) (flat_map item_places (map (port_item m) ps)) (at_said (D ++ map (dir_entry m) ps) [])
  directions-pass m D [] new known allowed = subst (λ (E : Named Port). Passed (place_walk leaf h) (at_said D []) [] (at_said E [])) (sym (append-nil D)) passed-none
  directions-pass m D (port ∷ ps) new known allowed =
      let Known : PPort → Type 0 = λ port. is_there h (port_name m port) ≡ true in
      let Allowed : PPort → Type 0 = λ port. IsAllowed (net_range (net_of m port.net)) in
      let q : List ℕ = port_name m port in
      let range : Option Range = net_range (net_of m port.net) in
      let P : Named Port → List Place → Type 0 = λ E xs. Passed (place_walk leaf h) (at_said D []) xs (at_said E []) in
      let one : (r : Option Range) → r ≡ range → Passed (place_walk leaf h) (at_said D []) (Directed (name_at q) (record { dir = port.dir; range = r }) ∷ []) (at_said (D ++ dir_entry m port ∷ []) []) = λ r e.
      passed-cons (place_walk leaf h) (at_said D []) (at_said (D ++ dir_entry m port ∷ []) []) (at_said (D ++ dir_entry m port ∷ []) []) (Directed (name_at q) (record { dir = port.dir; range = r })) []
      (clear3 (check kind.UnknownPort (name_at q) (not (is_there h q))) (check kind.NameTaken (name_at q) (is_there D q)) (check kind.RangeDiffers (name_at q) false)
      (ap not (All-head Known port ps known)) new.0 refl)
      (ap (λ x. at_said (D ++ (q, record { dir = port.dir; range = x }) ∷ []) []) e) passed-none in
      subst (λ (E : Named Port). P E (flat_map item_places (map (port_item m) (port ∷ ps)))) (append_assoc D (dir_entry m port ∷ []) (map (dir_entry m) ps))
      (passed-then (passed-then (ranged-pass D [] range q (All-head Allowed port ps allowed)) (one (option_map (λ s. s.range) (span_of range)) (span-back range)))
      (directions-pass m (D ++ dir_entry m port ∷ []) ps new.1 (All-tail Known port ps known) (All-tail Allowed port ps allowed)))

  wires-pass : (D : Named Port) (W : Named (Option Range)) (ws : List PNet) → Fresh W (map wire_range ws) → All (λ (w : PNet). is_there D w.name ≡ false) ws
      → All (λ (w : PNet). IsAllowed w.range) ws → All (λ (w : PNet). (leaf && not (is_there h w.name)) ≡ false) ws
      → Passed (place_walk leaf h) (at_said D W) (flat_map item_places (map wire_item ws)) (at_said D (W ++ map wire_range ws))
  wires-pass D W [] new no_port allowed inner = subst (λ (X : Named (Option Range)). Passed (place_walk leaf h) (at_said D W) [] (at_said D X)) (sym (append-nil W)) passed-none
  wires-pass D W (w ∷ ws) new no_port allowed inner =
      let NoPort : PNet → Type 0 = λ w. is_there D w.name ≡ false in
      let Allowed : PNet → Type 0 = λ w. IsAllowed w.range in
      let Inner : PNet → Type 0 = λ w. (leaf && not (is_there h w.name)) ≡ false in
      let none : named D w.name ≡ None = none-there (named D w.name) (All-head NoPort w ws no_port) in
      let one : (r : Option Range) → r ≡ w.range → Passed (place_walk leaf h) (at_said D W) (Wired (name_at w.name) r ∷ []) (at_said D (W ++ wire_range w ∷ [])) = λ r e.
      passed-cons (place_walk leaf h) (at_said D W) (at_said D (W ++ wire_range w ∷ [])) (at_said D (W ++ wire_range w ∷ [])) (Wired (name_at w.name) r) []
      (clear3 (check kind.NameTaken (name_at w.name) (is_there W w.name)) (check kind.RangeDiffers (name_at w.name) (differs_from_direction r (named D w.name))) (check kind.LeafBody (name_at w.name) (leaf && not (is_there h w.name)))
      new.0 (ap (differs_from_direction r) none) (All-head Inner w ws inner))
      (same-said (D ++ []) D (W ++ (w.name, r) ∷ []) (W ++ wire_range w ∷ []) (append-nil D) (ap (λ x. W ++ (w.name, x) ∷ []) e)) passed-none in
      subst (λ (X : Named (Option Range)). Passed (place_walk leaf h) (at_said D W) (flat_map item_places (map wire_item (w ∷ ws))) (at_said D X)) (append_assoc W (wire_range w ∷ []) (map wire_range ws))
      (passed-then (passed-then (ranged-pass D W w.range w.name (All-head Allowed w ws allowed)) (one (option_map (λ s. s.range) (span_of w.range)) (span-back w.range)))
      (wires-pass D (W ++ wire_range w ∷ []) ws new.1 (All-tail NoPort w ws no_port) (All-tail Allowed w ws allowed) (All-tail Inner w ws inner)))

  placed-pass : (M : Plain) (m : PModule) (D : Named Port) (W : Named (Option Range)) (is : List PInst) → All (λ (i : PInst). leaf ≡ false) is
      → Passed (place_walk leaf h) (at_said D W) (flat_map item_places (map (inst_item M m) is)) (at_said D W)
  placed-pass M m D W [] inner = passed-none
  placed-pass M m D W (i ∷ is) inner =
      passed-cons (place_walk leaf h) (at_said D W) (at_said D W) (at_said D W) (Placed (name_at _)) (flat_map item_places (map (inst_item M m) is))
      (clear1 (check kind.LeafBody (name_at _) leaf) (All-head (λ (i : PInst). leaf ≡ false) i is inner))
      (same-said (D ++ []) D (W ++ []) W (append-nil D) (append-nil W))
      (placed-pass M m D W is (All-tail (λ (i : PInst). leaf ≡ false) i is inner))

ports-pass : (m : PModule) (D before : Named Port) (ps : List PPort) → All (λ (port : PPort). named D (port_name m port) ≡ Some (dir_entry m port).1) ps
    → Passed (port_walk D) before (map (header_name m) ps) (before ++ map (dir_entry m) ps)
ports-pass m D before [] known = subst (λ (t : Named Port). Passed (port_walk D) before [] t) (sym (append-nil before)) passed-none
ports-pass m D before (port ∷ ps) known =
    let Known : PPort → Type 0 = λ port. named D (port_name m port) ≡ Some (dir_entry m port).1 in
    let here : named D (port_name m port) ≡ Some (dir_entry m port).1 = All-head Known port ps known in
    subst (λ (t : Named Port). Passed (port_walk D) before (map (header_name m) (port ∷ ps)) t) (append_assoc before (dir_entry m port ∷ []) (map (dir_entry m) ps))
    (passed-cons (port_walk D) before (before ++ dir_entry m port ∷ []) ((before ++ dir_entry m port ∷ []) ++ map (dir_entry m) ps) (header_name m port) (map (header_name m) ps)
    (clear1 (check kind.NoDirection (header_name m port) (not (is_there D (port_name m port)))) (ap (λ o. not (is_some o)) here))
    (ap (λ o. before ++ (port_name m port, unwrap_or o (record { dir = Input; range = None })) ∷ []) here)
    (ports-pass m D (before ++ dir_entry m port ∷ []) ps (All-tail Known port ps known)))

wires-bare : (m : PModule) → All (λ (w : PNet). is_some (port_at m w.id) ≡ false) (wires m)
wires-bare m k d within = no (is_some (port_at m (get_or (wires m) k d).id)) (filter_passes (λ (net : PNet). not (is_some (port_at m net.id))) m.nets k d within)
  where
    no : (b : Bool) → not b ≡ true → b ≡ false
    no true e = absurd (true≢false (sym e))
    no false e = refl

leaf-wires : (m : PModule) (h : Named (Unit {0})) (b : Bool) → (IsTrue b → IsCell m) → All (λ (w : PNet). (b && not (is_there h w.name)) ≡ false) (wires m)
leaf-wires m h false cell = λ k d within. refl
leaf-wires m h true cell = λ k d within.
    let test : PNet → Bool = λ net. not (is_some (port_at m net.id)) in
    let some = All-filter test (λ (net : PNet). IsSome (port_at m net.id)) m.nets (cell refl).nets k d within in
    let none = wires-bare m k d within in
    absurd (true≢false (sym some ∙ none))

leaf-insts : (m : PModule) (b : Bool) → (IsTrue b → IsCell m) → All (λ (i : PInst). b ≡ false) m.insts
leaf-insts m false cell = λ k d within. refl
leaf-insts m true cell = subst (λ (is : List PInst). All (λ (i : PInst). true ≡ false) is) (sym (cell refl).insts) (All-nil (λ (i : PInst). true ≡ false))

-- inside a written module no rule of the first round is broken, and its ports are those of the table
pub inside-none : (M : Plain) (m : PModule) → IsSoundModule M m → (first_broken (inside_checks m.leaf (module_tree M m)) ≡ None) × (map (dir_entry m) m.ports ≡ ports (module_tree M m))
inside-none M m s =
    let h : Named (Unit {0}) = map (port_key m) m.ports in
    let D : Named Port = map (dir_entry m) m.ports in
    let W : Named (Option Range) = map wire_range (wires m) in
    let differ = ports-differ M m s in
    let allowed : All (λ (port : PPort). IsAllowed (net_range (net_of m port.net))) m.ports = λ k d within.
    let net = some-there (net_of m (get_or m.ports k d).net) (s.ports_there k d within) in
    subst (λ (o : Option PNet). IsAllowed (net_range o)) (sym net.1) (All-find (λ (n : PNet). IsAllowed n.range) (λ (n : PNet). n.id.0 == (get_or m.ports k d).net.0) m.nets net.0 s.ranges net.1) in
    let no_port : All (λ (x : PNet). is_there D x.name ≡ false) (wires m) = λ k d within.
    absent D (get_or (wires m) k d).name (All-map (λ (x : List ℕ × Port). x.0 ≢ (get_or (wires m) k d).name) (dir_entry m) m.ports
    (λ l e low. wire-apart M m s l e (get_or (wires m) k d) low (wires-own M m s k d within) (wires-none M m s k d within))) in
    let places_end = passed-then (directions-pass m.leaf h m [] m.ports (fresh-from [] D (λ k d within. refl) (pairs_map (λ (a b : List ℕ × Port). a.0 ≢ b.0) (dir_entry m) m.ports differ))
    (λ k d within. ap is_some (named-mapped (port_key m) m.ports differ k d within)) allowed)
    (passed-then (wires-pass m.leaf h D [] (wires m) (fresh-from [] W (λ k d within. refl) (pairs_map (λ (a b : List ℕ × Option Range). a.0 ≢ b.0) wire_range (wires m) (pairs-filter (λ (a b : PNet). a.name ≢ b.name) (λ (net : PNet). not (is_some (port_at m net.id))) m.nets (nets-differ M m s))))
    no_port (All-filter (λ (net : PNet). not (is_some (port_at m net.id))) (λ (n : PNet). IsAllowed n.range) m.nets s.ranges) (leaf-wires m h m.leaf s.cell))
    (placed-pass m.leaf h M m D W m.insts (leaf-insts m m.leaf s.cell))) in
    let parts : flat_map item_places (map (port_item m) m.ports ++ (map wire_item (wires m) ++ map (inst_item M m) m.insts))
    ≡ flat_map item_places (map (port_item m) m.ports) ++ (flat_map item_places (map wire_item (wires m)) ++ flat_map item_places (map (inst_item M m) m.insts)) =
    flat_map-append item_places (map (port_item m) m.ports) (map wire_item (wires m) ++ map (inst_item M m) m.insts)
    ∙ ap (λ xs. flat_map item_places (map (port_item m) m.ports) ++ xs) (flat_map-append item_places (map wire_item (wires m)) (map (inst_item M m) m.insts)) in
    let q : Passed (place_walk m.leaf h) (said []) (places (module_tree M m)) (record { directions = D; wires = W })
    = subst (λ (xs : List Place). Passed (place_walk m.leaf h) (record { directions = []; wires = [] }) xs (record { directions = D; wires = W })) (sym parts) places_end in
    ports-give m.leaf (module_tree M m) h (record { directions = D; wires = W }) (Ok D)
    (header-pass m [] m.ports (fresh-from [] h (λ k d within. refl) (pairs_map (λ (a b : List ℕ × Unit {0}). a.0 ≢ b.0) (port_key m) m.ports differ)))
    q (ports-pass m D [] m.ports (λ k d within. named-mapped (dir_entry m) m.ports differ k d within))
