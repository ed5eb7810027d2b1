-- The connections of an instance are found by the names of the ports.
use Rattle.std.proofs.Common.{arith, ◌≡◌, ◌≢◌, ℕ, zero, suc, ◌+◌, ◌<◌, true, false, cond, List, [], ◌∷◌, map, find, length, get_or, Option, Some, None, IsSome, is_some, refl, sym, ap, ◌∙◌, All, AllPairs}
use Rattle.std.proofs.lemmas.List.Elements.{All-head, All-tail}
use Rattle.emh_base.specs.declared.plain.Conn.{Conn}
use Rattle.emh_base.specs.declared.plain.Conn.TheVariants as conn
use Rattle.emh_base.specs.declared.plain.PNet.{PNet}
use Rattle.emh_base.specs.declared.plain.PPort.{PPort}
use Rattle.emh_base.specs.declared.plain.PModule.{PModule}
use Rattle.emh_base.specs.declared.plain.Plain.{Plain}
use Rattle.flatten_rules.specs.Lookup.{net_of, width_of}
use Rattle.flatten_rules.specs.Sound.{IsSoundModule, FitPorts, FitsPort}
use Rattle.flatten_rules.proofs.Walks.{some-there}
use Rattle.vlog_read.specs.declared.tree.TConn.{TConn}
use Rattle.vlog_elab.specs.declared.interface.Port.{Port}
use Rattle.vlog_elab.specs.declared.scope.Net.{Net}
use Rattle.vlog_elab.specs.Named.{Named, named, numbered}
use Rattle.vlog_elab.specs.Interfaces.{row_port, row_port_on}
use Rattle.vlog_elab.specs.Table.{conn_of, is_to, conn_to, conns_of}
use Rattle.vlog_elab.proofs.Each.{pairs_head, pairs_tail}
use Rattle.named_tables.specs.NamedTable.{net_name, named_conn}
use Rattle.named_tables.proofs.Names.{bytes_eq-refl, bytes_eq-other, one-net}
use Rattle.vlog_write.specs.TreeOf.{port_name, conn_tree, conn_trees}
use Rattle.read_back.proofs.Bits.{Keeps, HasBits, conn-back, wide}

-- what is made of items whose names differ is found by their names
pub named-mapped : {X V : Type 0} (f : X → List ℕ × V) (xs : List X) → AllPairs (λ a b. (f a).0 ≢ (f b).0) xs → (k : ℕ) (d : X) → k < length xs
    → named (map f xs) (f (get_or xs k d)).0 ≡ Some (f (get_or xs k d)).1
named-mapped f [] differ k d within = absurd (omega (arith, within))
named-mapped f (x ∷ xs) differ zero d within = ap (λ b. cond b (Some (f x).1) (named (map f xs) (f x).0)) (bytes_eq-refl (f x).0)
named-mapped f (x ∷ xs) differ (suc k) d within =
    let other : (f (get_or xs k d)).0 ≢ (f x).0 = λ same. differ 0 (suc k) d (omega arith) within (sym same) in
    ap (λ b. cond b (Some (f x).1) (named (map f xs) (f (get_or xs k d)).0)) (bytes_eq-other (f (get_or xs k d)).0 (f x).0 other)
    ∙ named-mapped f xs (pairs_tail (λ a b. (f a).0 ≢ (f b).0) x xs differ) k d (omega arith)

pub row_port-name : (m : PModule) (port : PPort) → (row_port m port).0 ≡ port_name m port
row_port-name m port = at_o (net_of m port.net)
  where
    at_o : (o : Option PNet) → (row_port_on port.dir o).0 ≡ net_name o
    at_o None = refl
    at_o (Some net) = refl

-- the names of a module's ports differ
pub ports-differ : (M : Plain) (m : PModule) → IsSoundModule M m → AllPairs (λ (a b : PPort). port_name m a ≢ port_name m b) m.ports
ports-differ M m s i j d below within =
    let a : PPort = get_or m.ports i d in
    let b : PPort = get_or m.ports j d in
    let x = some-there (net_of m a.net) (s.ports_there i d (omega (arith, below, within))) in
    let y = some-there (net_of m b.net) (s.ports_there j d within) in
    λ same. s.ports_differ i j d below within (one-net M m a.net b.net x.0 y.0 s x.1 y.1 (sym (ap net_name x.1) ∙ same ∙ ap net_name y.1))

-- each connection is found by its port's name
abbrev pub Finds : PModule → PModule → List TConn → List PPort → List Conn → Type 0
Finds m master all [] conns = Unit {0}
Finds m master all (port ∷ ports) [] = Unit {0}
Finds m master all (port ∷ ports) (c ∷ conns) = (find (is_to (port_name master port)) all ≡ Some (conn_tree m (port_name master port) c)) × Finds m master all ports conns

is_to-own : (m : PModule) (q : List ℕ) (c : Conn) → is_to q (conn_tree m q c) ≡ true
is_to-own m q c = ap (λ b. is_some (cond b (Some tt) None)) (bytes_eq-refl q)

is_to-other : (m : PModule) (q r : List ℕ) (c : Conn) → q ≢ r → is_to q (conn_tree m r c) ≡ false
is_to-other m q r c other = ap (λ b. is_some (cond b (Some tt) None)) (bytes_eq-other q r other)

finds-more : (m master : PModule) (r : List ℕ) (c : Conn) (all : List TConn) (ports : List PPort) (conns : List Conn) → All (λ (port : PPort). r ≢ port_name master port) ports
    → Finds m master all ports conns → Finds m master (conn_tree m r c ∷ all) ports conns
finds-more m master r c all [] conns other finds = tt
finds-more m master r c all (port ∷ ports) [] other finds = tt
finds-more m master r c all (port ∷ ports) (d ∷ conns) other finds =
    let here : r ≢ port_name master port = All-head (λ (port : PPort). r ≢ port_name master port) port ports other in (
      ap (λ b. cond b (Some (conn_tree m r c)) (find (is_to (port_name master port)) all)) (is_to-other m (port_name master port) r c (λ same. here (sym same))) ∙ finds.0,
      finds-more m master r c all ports conns (All-tail (λ (port : PPort). r ≢ port_name master port) port ports other) finds.1,
    )

pub finds-all : (m master : PModule) (ports : List PPort) (conns : List Conn) → AllPairs (λ (a b : PPort). port_name master a ≢ port_name master b) ports
    → Finds m master (conn_trees m master ports conns) ports conns
finds-all m master [] conns differ = tt
finds-all m master (port ∷ ports) [] differ = tt
finds-all m master (port ∷ ports) (c ∷ conns) differ =
    let R : PPort → PPort → Type 0 = λ a b. port_name master a ≢ port_name master b in
    let q : List ℕ = port_name master port in
    let all : List TConn = conn_trees m master ports conns in (
      ap (λ b. cond b (Some (conn_tree m q c)) (find (is_to q) all)) (is_to-own m q c),
      finds-more m master q c all ports conns (pairs_head R port ports differ) (finds-all m master ports conns (pairs_tail R port ports differ)),
    )

by-name : (m master : PModule) (ports : List PPort) (conns : List Conn) (place : ℕ) (q : List ℕ) → conn_to (conn_trees m master ports conns) place q ≡ find (is_to q) (conn_trees m master ports conns)
by-name m master [] conns place q = refl
by-name m master (port ∷ ports) [] place q = refl
by-name m master (port ∷ ports) (c ∷ conns) place q = refl

pub fits-has : (m master : PModule) (port : PPort) (c : Conn) → FitsPort m master port c → HasBits m c (width_of (net_of master port.net))
fits-has m master port conn.Open fits = tt
fits-has m master port (conn.Bits bits) fits = fits

module _ (m : PModule) (ns : Named Net) (R : PModule) (keeps : Keeps m ns R) (master : PModule) (all : List TConn) (found : (place : ℕ) (q : List ℕ) → conn_to all place q ≡ find (is_to q) all) where
  abbrev make : ℕ → List ℕ × Port → Conn
  make place port = conn_of ns (conn_to all place port.0)

  each-back : (n : ℕ) (ports : List PPort) (conns : List Conn) → Finds m master all ports conns → FitPorts m master ports conns → All (λ (port : PPort). IsSome (net_of master port.net)) ports
      → map (named_conn R) (numbered make n (map (row_port master) ports)) ≡ map (named_conn m) conns
  each-back n [] [] finds fits there = refl
  each-back n [] (c ∷ conns) finds fits there = absurd fits
  each-back n (port ∷ ports) [] finds fits there = absurd fits
  each-back n (port ∷ ports) (c ∷ conns) finds fits there =
      let net = some-there (net_of master port.net) (All-head (λ (port : PPort). IsSome (net_of master port.net)) port ports there) in
      let some : 0 < width_of (net_of master port.net) = rw net.1 (wide net.0.range) in
      let here : named_conn R (make n (row_port master port)) ≡ named_conn m c
      = ap (λ o. named_conn R (conn_of ns o)) (found n (row_port master port).0 ∙ ap (λ q. find (is_to q) all) (row_port-name master port) ∙ finds.0)
      ∙ conn-back m ns R keeps c (width_of (net_of master port.net)) (fits-has m master port c fits.0) some in
      let rest = each-back (n + 1) ports conns finds.1 fits.1 (All-tail (λ (port : PPort). IsSome (net_of master port.net)) port ports there) in
      λ i. here i ∷ rest i

-- the connections of an instance are those that were written, by names
pub conns-back : (M : Plain) (m master : PModule) (ns : Named Net) (R : PModule) (conns : List Conn) → Keeps m ns R → IsSoundModule M master → FitPorts m master master.ports conns
    → map (named_conn R) (conns_of ns (map (row_port master) master.ports) (conn_trees m master master.ports conns)) ≡ map (named_conn m) conns
conns-back M m master ns R conns keeps s fits =
    each-back m ns R keeps master (conn_trees m master master.ports conns) (by-name m master master.ports conns) 0 master.ports conns
    (finds-all m master master.ports conns (ports-differ M master s)) fits s.ports_there
