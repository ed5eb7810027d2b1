-- What soundness says of what is read.
use Rattle.std.proofs.Common.{◌≡◌, ◌≢◌, ℕ, ◌<◌, ◌≤◌, ◌==◌, ◌||◌, nat_eq, not, Bool, true, false, cond, List, [], ◌∷◌, length, map, get_or, slice_get, find, position, is_some, Option, Some, None, option_map, option_and_then, IsTrue, IsSome, MatchOption, All, AllPairs, refl, sym, ap, subst, ◌∙◌, arith}
use Rattle.std.specs.List.{list_any, position_or_len}
use Rattle.std.proofs.lemmas.Bool.Decides.{nat_tests, Decides-eqb}
use Rattle.std.proofs.lemmas.List.{get_or-map, length-map}
use Rattle.std.proofs.lemmas.List.Elements.{All-head, All-tail, All-cons}
use Rattle.std.proofs.lemmas.List.Folds.{find_at}
use Rattle.std.proofs.lemmas.List.Sums.{position_or_len_is}
use Rattle.std.proofs.lemmas.Map.Made.{IsDistinct-from_AllPairs}
use Rattle.std.proofs.lemmas.Map.Steps.{length-le_from_distinct_below}
use Rattle.std.proofs.lemmas.Option.{slice_get_within, get_or_from_slice_get, slice_get_past, slice_get-get_or}
use Rattle.emh_base.specs.declared.ids.ModId.{ModId}
use Rattle.emh_base.specs.declared.ids.NetId.{NetId}
use Rattle.emh_base.specs.declared.ids.InstId.{InstId}
use Rattle.emh_base.specs.declared.plain.Dir.{Dir}
use Rattle.emh_base.specs.declared.plain.Dir.TheVariants.{Input}
use Rattle.emh_base.specs.declared.plain.Range.{Range}
use Rattle.emh_base.specs.declared.plain.Conn.{Conn}
use Rattle.emh_base.specs.declared.plain.Conn.TheVariants.{Open, Bits}
use Rattle.emh_base.specs.declared.plain.PNet.{PNet}
use Rattle.emh_base.specs.declared.plain.PPort.{PPort}
use Rattle.emh_base.specs.declared.plain.PInst.{PInst}
use Rattle.emh_base.specs.declared.plain.PModule.{PModule}
use Rattle.emh_base.specs.declared.plain.Plain.{Plain}
use Rattle.flatten_rules.specs.Lookup.{module_of, net_of, port_of, inst_of}
use Rattle.flatten_rules.specs.Domains.{ports_of}
use Rattle.flatten_rules.specs.Sound.{IsSound, IsSoundModule, IsAllowed, HasMaster, FitPorts}
use Rattle.flatten_rules.proofs.Sound.{All-find, master-there}
use Rattle.flatten_rules.proofs.Checking.{fit-length}
use Rattle.flatten_rules.proofs.Walks.{find-passes}
use Rattle.flatten_rules.proofs.Places.{item-there, position-within, find-from_none}
use Rattle.edit_rules.specs.Readers.{is_module, is_inst, is_port, net_in, port_in, inst_in, master_id, conn_of, conn_at, is_connected, next_net_of}
use Rattle.edit_rules.specs.Facts.{is_open_conn}
use Rattle.edit_rules.proofs.TableLemmas.{sound-found}

-- by names

some-step : {X Y : Type 0} (f : X → Y) (b any : Bool) (x : X) (rest : Option X) → is_some (option_map f rest) ≡ any → is_some (option_map f (cond b (Some x) rest)) ≡ (b || any)
some-step f true any x rest more = refl
some-step f false any x rest more = more

pub any-found : {X Y : Type 0} (f : X → Y) (p : X → Bool) (xs : List X) → is_some (option_map f (find p xs)) ≡ list_any p xs
any-found f p [] = refl
any-found f p (x ∷ xs) = some-step f (p x) (list_any p xs) x (find p xs) (any-found f p xs)

-- masters

module _ (M : Plain) (sound : IsSound M) where
  master-inst : (h : PModule) (inst : InstId) (r : ModId) → IsSoundModule M h → (found : Option PInst) → found ≡ inst_of h inst → option_map (λ there. there.master) found ≡ Some r → IsSome (module_of M r)
  master-inst h inst r sound-h None at e = let never : None ≡ Some r = e in absurd (cc)
  master-inst h inst r sound-h (Some there) at e =
      let same : there.master ≡ r = cc in
      let has : HasMaster M h there = All-find (HasMaster M h) (λ x. x.id.0 == inst.0) h.insts there sound-h.masters (sym at) in
      let Live : ModId → Type 0 = λ id. IsSome (module_of M id) in
      subst Live same (master-there M h there has)

  master-module : (id : ModId) (inst : InstId) (r : ModId) (found : Option PModule) → found ≡ module_of M id → option_map (λ there. there.master) (option_and_then (λ holder. inst_of holder inst) found) ≡ Some r → IsSome (module_of M r)
  master-module id inst r None at e = let never : None ≡ Some r = e in absurd (cc)
  master-module id inst r (Some h) at e = master-inst h inst r (sound-found M id h sound at) (inst_of h inst) refl e

  pub master-live : (id : ModId) (inst : InstId) (r : ModId) → option_map (λ there. there.master) (inst_in M id inst) ≡ Some r → IsTrue (is_module M r)
  master-live id inst r e = master-module id inst r (module_of M id) refl e

  -- ranges

  range-net : (h : PModule) (net : NetId) (range : Option Range) → IsSoundModule M h → (found : Option PNet) → found ≡ net_of h net → option_map (λ there. there.range) found ≡ Some range → IsAllowed range
  range-net h net range sound-h None at e = let never : None ≡ Some range = e in absurd (cc)
  range-net h net range sound-h (Some there) at e =
      let same : there.range ≡ range = cc in
      subst IsAllowed same (All-find (λ (x : PNet). IsAllowed x.range) (λ x. x.id.0 == net.0) h.nets there sound-h.ranges (sym at))

  range-module : (id : ModId) (net : NetId) (range : Option Range) (found : Option PModule) → found ≡ module_of M id → option_map (λ there. there.range) (option_and_then (λ holder. net_of holder net) found) ≡ Some range → IsAllowed range
  range-module id net range None at e = let never : None ≡ Some range = e in absurd (cc)
  range-module id net range (Some h) at e = range-net h net range (sound-found M id h sound at) (net_of h net) refl e

  pub range-allowed : (id : ModId) (net : NetId) (range : Option Range) → option_map (λ there. there.range) (net_in M id net) ≡ Some range → IsAllowed range
  range-allowed id net range e = range-module id net range (module_of M id) refl e

-- connections

open-conn : (conn : Conn) → is_open_conn (Some conn) ≡ not (is_connected (Some conn))
open-conn Open = refl
open-conn (Bits bits) = refl

open-at : (conns : List Conn) (k : ℕ) → k < length conns → is_open_conn (slice_get conns k) ≡ not (is_connected (slice_get conns k))
open-at conns k within = rw (slice_get-get_or conns k Open within) (open-conn (get_or conns k Open))

open-place : (ports : List PPort) (conns : List Conn) (port : NetId) (place : Option ℕ) → length ports ≡ length conns → place ≡ position (λ other. other.net.0 == port.0) ports → IsSome (find (λ other. other.net.0 == port.0) ports)
    → is_open_conn (conn_at place conns) ≡ not (is_connected (conn_at place conns))
open-place ports conns port None many at there =
    let none : None ≡ find (λ other. other.net.0 == port.0) ports = find-from_none (λ other. other.net.0 == port.0) ports at in
    let Some-there : Option PPort → Type 0 = IsSome in
    let never : false ≡ true = subst IsSome (sym none) there in
    absurd (cc)
open-place ports conns port (Some k) many at there =
    open-at conns k (omega (arith, many, position-within (λ other. other.net.0 == port.0) ports k at))

module _ (M : Plain) (sound : IsSound M) (port : NetId) where
  open-master : (h : PModule) (inst : PInst) (master : Option PModule) → MatchOption master ⊥ (λ m. FitPorts h m m.ports inst.conns) → IsTrue (is_some (option_and_then (λ m. port_of m port) master))
      → is_open_conn (conn_at (position (λ other. other.net.0 == port.0) (ports_of master)) inst.conns) ≡ not (is_connected (conn_at (position (λ other. other.net.0 == port.0) (ports_of master)) inst.conns))
  open-master h inst None fits there = absurd fits
  open-master h inst (Some m) fits there =
      open-place m.ports inst.conns port (position (λ other. other.net.0 == port.0) m.ports) (fit-length h m m.ports inst.conns fits) refl there

  open-inst : (h : PModule) (id : InstId) → IsSoundModule M h → (found : Option PInst) → found ≡ inst_of h id → IsTrue (is_some found) → IsTrue (is_port M (master_id found) port)
      → is_open_conn (conn_of M found port) ≡ not (is_connected (conn_of M found port))
  open-inst h id sound-h None at some there = let never : false ≡ true = some in absurd (cc)
  open-inst h id sound-h (Some inst) at some there =
      open-master h inst (module_of M inst.master) (All-find (HasMaster M h) (λ x. x.id.0 == id.0) h.insts inst sound-h.masters (sym at)) there

  open-module : (id : ModId) (inst : InstId) (found : Option PModule) → found ≡ module_of M id → IsTrue (is_some (option_and_then (λ holder. inst_of holder inst) found)) → IsTrue (is_port M (master_id (option_and_then (λ holder. inst_of holder inst) found)) port)
      → is_open_conn (conn_of M (option_and_then (λ holder. inst_of holder inst) found) port) ≡ not (is_connected (conn_of M (option_and_then (λ holder. inst_of holder inst) found) port))
  open-module id inst None at some there = let never : false ≡ true = some in absurd (cc)
  open-module id inst (Some h) at some there = open-inst h inst (sound-found M id h sound at) (inst_of h inst) refl some there

  -- where the instance and the port are there, the connection is open or it isn't
  pub open-joined : (id : ModId) (inst : InstId) → IsTrue (is_inst M id inst) → IsTrue (is_port M (master_id (inst_in M id inst)) port)
      → is_open_conn (conn_of M (inst_in M id inst) port) ≡ not (is_connected (conn_of M (inst_in M id inst) port))
  open-joined id inst some there = open-module id inst (module_of M id) refl some there

-- ports

net_id : ℕ → NetId
net_id n = record { 0 = n }

-- a port is found by its inner net
port-own : (ports : List PPort) (k : ℕ) (d : PPort) → AllPairs (λ (a b : PPort). a.net ≢ b.net) ports → k < length ports → find (λ other. other.net.0 == (get_or ports k d).net.0) ports ≡ Some (get_or ports k d)
unfolding net_id
port-own ports k d differ within =
    let p : PPort = get_or ports k d in
    let test : PPort → Bool = λ other. other.net.0 == p.net.0 in
    let at : position_or_len test ports ≡ k =
    position_or_len_is test ports k d (omega arith)
    (λ j below.
    let other : (get_or ports j d).net.0 ≢ p.net.0 = λ same. differ j k d below within (ap net_id same) in
    grind (arith, nat_tests))
    (λ here. grind (arith, nat_tests)) in
    find_at test ports ∙ ap (slice_get ports) at ∙ slice_get-get_or ports k d within

module _ (M : Plain) (sound : IsSound M) where
  port-there : (h : PModule) (place : ℕ) (net : NetId) (dir : Dir) → IsSoundModule M h → (found : Option PPort) → found ≡ slice_get h.ports place → option_map (λ port. port.net) found ≡ Some net
      → (port : PPort) × (found ≡ Some port) × (port.net ≡ net) × (port_of h net ≡ Some port)
  port-there h place net dir sound-h None at e = let never : None ≡ Some net = e in absurd (cc)
  port-there h place net dir sound-h (Some port) at e =
      let same : port.net ≡ net = cc in
      let within : place < length h.ports = slice_get_within h.ports place port (sym at) in
      let here : get_or h.ports place port ≡ port = get_or_from_slice_get h.ports place port port (sym at) in
      let Own : PPort → Type 0 = λ p. find (λ other. other.net.0 == p.net.0) h.ports ≡ Some p in
      let own : Own port = subst Own here (port-own h.ports place port sound-h.ports_differ within) in
      let Found : NetId → Type 0 = λ n. port_of h n ≡ Some port in
      (port, refl, same, subst Found same own)

  port-module : (place : ℕ) (id : ModId) (net : NetId) (found : Option PModule) → found ≡ module_of M id → option_map (λ port. port.net) (slice_get (ports_of found) place) ≡ Some net
      → (port : PPort) × (slice_get (ports_of found) place ≡ Some port) × (port.net ≡ net) × (option_and_then (λ holder. port_of holder net) found ≡ Some port)
  port-module place id net None at e =
      let none : slice_get {X = PPort} [] place ≡ None = slice_get_past [] place (omega arith) in
      let never : None ≡ Some net = ap (option_map (λ (port : PPort). port.net)) (sym none) ∙ e in
      absurd (cc)
  port-module place id net (Some h) at e = port-there h place net Input (sound-found M id h sound at) (slice_get h.ports place) refl e

  -- the port at a place is the one that its inner net names
  pub port-named : (place : ℕ) (id : ModId) (net : NetId) → option_map (λ port. port.net) (slice_get (ports_of (module_of M id)) place) ≡ Some net
      → (port : PPort) × (slice_get (ports_of (module_of M id)) place ≡ Some port) × (port.net ≡ net) × (port_in M id net ≡ Some port)
  port-named place id net e = port-module place id net (module_of M id) refl e

-- no module has more ports than its counter of nets

number : PPort → ℕ
number port = port.net.0

numbers-differ : (ports : List PPort) → AllPairs (λ (a b : PPort). a.net ≢ b.net) ports → AllPairs (λ x y. x ≢ y) (map number ports)
unfolding net_id number
numbers-differ ports differ i j d before within =
    let inside : j < length ports = omega (arith, length-map ports number) in
    let p : PPort = (item-there ports j inside).0 in
    let at_i : get_or (map number ports) i d ≡ number (get_or ports i p) = get_or-map number ports i p d (omega arith) in
    let at_j : get_or (map number ports) j d ≡ number (get_or ports j p) = get_or-map number ports j p d inside in
    λ same. differ i j p before inside (ap net_id (sym at_i ∙ same ∙ at_j))

below-any : (q : ℕ) (xs : List ℕ) (n : ℕ) → All (λ x. x < n) xs → list_any (nat_eq q) xs ≡ true → q < n
below-any q [] n low some = let never : false ≡ true = some in absurd (cc)
below-any q (x ∷ xs) n low some =
    by-test (nat_eq q x) refl (below-any q xs n (All-tail (λ y. y < n) x xs low)) some
  where
    by-test : (b : Bool) → b ≡ nat_eq q x → (list_any (nat_eq q) xs ≡ true → q < n) → (b || list_any (nat_eq q) xs) ≡ true → q < n
    by-test true is more all = let first : x < n = All-head (λ y. y < n) x xs low in grind (arith, nat_tests)
    by-test false is more all = more all

ports-below : (M : Plain) (m : PModule) → IsSoundModule M m → (ports : List PPort) → All (λ (port : PPort). IsSome (net_of m port.net)) ports → All (λ x. x < m.next_net) (map number ports)
unfolding number
ports-below M m sound [] there = λ i d within. absurd (omega arith)
ports-below M m sound (port ∷ ports) there =
    All-cons (λ x. x < m.next_net) (number port) (map number ports)
    (net-below (net_of m port.net) refl (All-head (λ (p : PPort). IsSome (net_of m p.net)) port ports there))
    (ports-below M m sound ports (All-tail (λ (p : PPort). IsSome (net_of m p.net)) port ports there))
  where
    net-below : (found : Option PNet) → found ≡ net_of m port.net → IsSome found → number port < m.next_net
    net-below None at some = let never : false ≡ true = some in absurd (cc)
    net-below (Some net) at some =
        let low : net.id.0 < m.next_net = All-find (λ (x : PNet). x.id.0 < m.next_net) (λ x. x.id.0 == port.net.0) m.nets net sound.nets_below (sym at) in
        let here : (net.id.0 == port.net.0) ≡ true = find-passes (λ x. x.id.0 == port.net.0) m.nets net (sym at) in
        grind (arith, nat_tests)

ports-few-in : (M : Plain) (m : PModule) → IsSoundModule M m → length m.ports ≤ m.next_net
ports-few-in M m sound =
    let distinct = IsDistinct-from_AllPairs Decides-eqb (map number m.ports) (numbers-differ m.ports sound.ports_differ) in
    let few = length-le_from_distinct_below (map number m.ports) m.next_net distinct (λ q some. below-any q (map number m.ports) m.next_net (ports-below M m sound m.ports sound.ports_there) some) in
    omega (arith, few, length-map m.ports number)

pub ports-few : (M : Plain) (id : ModId) → IsSound M → length (ports_of (module_of M id)) ≤ next_net_of (module_of M id)
ports-few M id sound = few (module_of M id) refl
  where
    few : (found : Option PModule) → found ≡ module_of M id → length (ports_of found) ≤ next_net_of found
    few None at = omega arith
    few (Some m) at = ports-few-in M m (sound-found M id m sound at)
