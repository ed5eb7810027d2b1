-- What the checks of soundness rest on: connections one by one, ports and their flags.
use Rattle.std.proofs.Common.{◌≡◌, ◌≢◌, ℕ, ◌↔◌, ◌+◌, ◌<◌, ◌≤◌, ◌==◌, zero, suc, Bool, true, false, List, [], ◌∷◌, ◌++◌, length, take, set, get_or, find, position, is_some, Vec, Global, Option, Some, None, IsTrue, IsSome, All, AllPairs, refl, sym, ap, ◌∙◌, subst, arith, ⊎_elim}
use Rattle.std.proofs.lemmas.Bool.{cases_lt, cases_eq, false≢true, both_ways, eqb-true, eq-eqb, ne_eqb}
use Rattle.std.proofs.lemmas.List.{take_more, length-take, length-set, length_push, get_or_push, get_or_append_left, get_or-take, get_or-set_same, get_or-set_other, get_or_default}
use Rattle.std.proofs.lemmas.List.Elements.{All-push, All-from_get_or}
use Rattle.std.proofs.lemmas.List.Quantifiers.{all_pairs_push, position-Some}
use Rattle.emh_base.specs.declared.ids.NetId.{NetId}
use Rattle.emh_base.specs.declared.plain.Conn.{Conn}
use Rattle.emh_base.specs.declared.plain.PNet.{PNet}
use Rattle.emh_base.specs.declared.plain.PPort.{PPort}
use Rattle.emh_base.specs.declared.plain.PModule.{PModule}
use Rattle.emh_base.specs.declared.plain.Plain.{Plain}
use Rattle.flatten_rules.specs.Lookup.{net_of, port_of}
use Rattle.flatten_rules.specs.Sound.{FitPorts, FitsPort, IsSoundModule}
use Rattle.flatten_rules.specs.Checks.{HasNets, HasPorts, ArePortPlaces, port_place}
use Rattle.flatten_rules.proofs.Places.{item-there, position-within, position-none, position-push_yes, position-push_no, none-fails, find-from_place, find-from_none}

-- connections fit ports where there are as many, and each fits the port at its place
pub record FitEach (m master : PModule) (ports : List PPort) (conns : List Conn) (upto : ℕ) : Type 0 where
  pub each : (k : ℕ) (port : PPort) (conn : Conn) → k < upto → FitsPort m master (get_or ports k port) (get_or conns k conn)

pub fit-length : (m master : PModule) (ports : List PPort) (conns : List Conn) → FitPorts m master ports conns → length ports ≡ length conns
fit-length m master [] [] fit = refl
fit-length m master [] (conn ∷ conns) fit = absurd fit
fit-length m master (port ∷ ports) [] fit = absurd fit
fit-length m master (port ∷ ports) (conn ∷ conns) fit = omega (arith, fit-length m master ports conns fit.1)

pub fit-at : (m master : PModule) (ports : List PPort) (conns : List Conn) → FitPorts m master ports conns → (k : ℕ) (port : PPort) (conn : Conn) → k < length ports → FitsPort m master (get_or ports k port) (get_or conns k conn)
fit-at m master [] conns fit k p c within = absurd (omega arith)
fit-at m master (port ∷ ports) [] fit k p c within = absurd fit
fit-at m master (port ∷ ports) (conn ∷ conns) fit zero p c within = fit.0
fit-at m master (port ∷ ports) (conn ∷ conns) fit (suc k) p c within = fit-at m master ports conns fit.1 k p c (omega arith)

pub fit-from_each : (m master : PModule) (ports : List PPort) (conns : List Conn) → length ports ≡ length conns → ((k : ℕ) (port : PPort) (conn : Conn) → k < length ports → FitsPort m master (get_or ports k port) (get_or conns k conn)) → FitPorts m master ports conns
fit-from_each m master [] [] many each = tt
fit-from_each m master [] (conn ∷ conns) many each = absurd (omega arith)
fit-from_each m master (port ∷ ports) [] many each = absurd (omega arith)
fit-from_each m master (port ∷ ports) (conn ∷ conns) many each =
    (each 0 port conn (omega arith), fit-from_each m master ports conns (omega arith) (λ k p c within. each (suc k) p c (omega arith)))

pub fit-each_more : (m master : PModule) (ports : List PPort) (conns : List Conn) (i : ℕ) (port : PPort) (conn : Conn) → FitEach m master ports conns i → ((d : PPort) → port ≡ get_or ports i d) → ((d : Conn) → conn ≡ get_or conns i d) → FitsPort m master port conn → FitEach m master ports conns (i + 1)
fit-each_more m master ports conns i port conn before at_port at_conn fits = record {
  each = λ k p c below. ⊎_elim
      (λ (earlier : k < i). before.each k p c earlier)
      (λ (from : i ≤ k). let same : k ≡ i = omega arith in rw (same, ← at_port p, ← at_conn c) fits)
      (cases_lt k i);
}

-- a connection that doesn't fit its port
pub fit-misfit : (m master : PModule) (ports : List PPort) (conns : List Conn) (i : ℕ) (port : PPort) (conn : Conn) (fits : Bool) → i < length ports → ((d : PPort) → port ≡ get_or ports i d) → ((d : Conn) → conn ≡ get_or conns i d) → IsTrue fits ↔ FitsPort m master port conn → fits ≡ false → FitPorts m master ports conns → ⊥
fit-misfit m master ports conns i port conn fits within at_port at_conn tells misfit all =
    both_ways fits misfit (tells.1 (rw (at_port port, at_conn conn) (fit-at m master ports conns all i port conn within)))

abbrev has_net : NetId → PPort → Bool
has_net id port = port.net.0 == id.0

-- The first ports of a module have nets of their own, and for each net the place of the port among them is known.
pub record Placed (m : PModule) (ports : List PPort) (places : List (Option ℕ)) : Type 0 where
  pub many : length places ≡ length m.nets
  pub there : All (λ (port : PPort). IsSome (net_of m port.net)) ports
  pub differ : AllPairs (λ (a b : PPort). a.net ≢ b.net) ports
  pub each : (k : ℕ) (net : PNet) → k < length m.nets → get_or places k None ≡ position (has_net (get_or m.nets k net).id) ports

module _ (m : PModule) (nets : HasNets m) where
  -- a port whose net isn't there
  pub no-net : (i : ℕ) (port : PPort) → i < length m.ports → port ≡ get_or m.ports i port → None ≡ position (λ (net : PNet). net.id.0 == port.net.0) m.nets → HasPorts m → ⊥
  no-net i port within at none own =
      let absent : None ≡ net_of m port.net = find-from_none (λ (net : PNet). net.id.0 == port.net.0) m.nets none in
      let There : PPort → Type 0 = λ p. IsSome (net_of m p.net) in
      let there : There port = subst There (sym at) (own.there i port within) in
      absurd (false≢true (rw (← absent) at there))

  module _ (i : ℕ) (port : PPort) (place : ℕ) (places : List (Option ℕ)) (within : i < length m.ports) (at : port ≡ get_or m.ports i port) (found : Some place ≡ position (λ (net : PNet). net.id.0 == port.net.0) m.nets) (before : Placed m (take i m.ports) places) where
    in_nets : place < length m.nets
    in_nets = position-within (λ (net : PNet). net.id.0 == port.net.0) m.nets place found

    -- the net at the place is the port's
    net-at : (net : PNet) → (get_or m.nets place net).id.0 ≡ port.net.0
    net-at net = eqb-true (get_or m.nets place net).id.0 port.net.0 (position-Some (λ (x : PNet). x.id.0 == port.net.0) m.nets place net (sym found)).1

    -- the earlier port on it
    earlier : get_or places place None ≡ position (has_net port.net) (take i m.ports)
    earlier =
        let net : PNet = (item-there m.nets place in_nets).0 in
        before.each place net in_nets ∙ ap (λ n. position (λ (p : PPort). p.net.0 == n) (take i m.ports)) (net-at net)

    same-net : (p : PPort) → p.net.0 ≡ port.net.0 → p.net ≡ port.net
    same-net p same = let make : ℕ → NetId = λ n. record { 0 = n } in ap make same

    -- a port whose net an earlier one has
    pub net-taken : (k : ℕ) → get_or places place None ≡ Some k → HasPorts m → ⊥
    net-taken k set own =
        let some = position-Some (has_net port.net) (take i m.ports) k port (sym earlier ∙ set) in
        let below : k < i = omega (arith, some.0, length-take i m.ports) in
        let here : get_or (take i m.ports) k port ≡ get_or m.ports k port = get_or-take i m.ports k port below in
        let same : (get_or m.ports k port).net ≡ port.net =
        ap (λ (p : PPort). p.net) (sym here) ∙ same-net (get_or (take i m.ports) k port) (eqb-true (get_or (take i m.ports) k port).net.0 port.net.0 some.1)
        in
        own.differ k i port below within (same ∙ ap (λ (p : PPort). p.net) at)

    free : get_or places place None ≡ None → (k : ℕ) (d : PPort) → k < length (take i m.ports) → (get_or (take i m.ports) k d).net ≢ port.net
    free unset k d low same =
        let passes : has_net port.net (get_or (take i m.ports) k d) ≡ true = eq-eqb (get_or (take i m.ports) k d).net.0 port.net.0 (ap (λ (n : NetId). n.0) same) in
        both_ways (has_net port.net (get_or (take i m.ports) k d)) (none-fails (has_net port.net) (take i m.ports) (sym earlier ∙ unset) k d low) passes

    is_there : IsSome (net_of m port.net)
    is_there =
        let item = item-there m.nets place in_nets in
        rw (sym (find-from_place (λ (net : PNet). net.id.0 == port.net.0) m.nets place found) ∙ item.1) refl

    other-net : (k : ℕ) (net : PNet) → k < length m.nets → (k ≡ place → ⊥) → has_net (get_or m.nets k net).id port ≡ false
    other-net k net in_k apart =
        ne_eqb port.net.0 (get_or m.nets k net).id.0 (λ same.
        ⊎_elim (λ (below : k < place). absurd (omega (arith, nets.rise k place net below in_nets, net-at net, same)))
        (λ (from : place ≤ k). let above : place < k = omega (arith, apart) in absurd (omega (arith, nets.rise place k net above in_k, net-at net, same)))
        (cases_lt k place))

    last-port : take (i + 1) m.ports ≡ take i m.ports ++ port ∷ []
    last-port = take_more m.ports i port within ∙ ap (λ (p : PPort). take i m.ports ++ p ∷ []) (sym at)

    -- the place of the port at the place of its net
    here-more : get_or places place None ≡ None → (net : PNet) → position (has_net (get_or m.nets place net).id) (take (i + 1) m.ports) ≡ Some i
    here-more unset net =
        let id : has_net (get_or m.nets place net).id port ≡ true = eq-eqb port.net.0 (get_or m.nets place net).id.0 (sym (net-at net)) in
        let many : length (take i m.ports) ≡ i = omega (arith, length-take i m.ports) in
        ap (position (has_net (get_or m.nets place net).id)) last-port
        ∙ position-push_yes (has_net (get_or m.nets place net).id) (take i m.ports) port (sym (before.each place net in_nets) ∙ unset) id
        ∙ ap Some many

    pub placed-more : get_or places place None ≡ None → Placed m (take (i + 1) m.ports) (set places place (Some i))
    placed-more unset = record {
      many = length-set places place (Some i) ∙ before.many;
      there = rw last-port (All-push (λ (p : PPort). IsSome (net_of m p.net)) (take i m.ports) port before.there is_there);
      differ = rw last-port (all_pairs_push (λ (a b : PPort). a.net ≢ b.net) (take i m.ports) port before.differ (free unset));
      each = λ k net in_k. ⊎_elim
          (λ (same : k ≡ place).
          ap (λ j. get_or (set places place (Some i)) j None) same ∙ get_or-set_same places place (Some i) None (omega (arith, before.many, in_nets))
          ∙ sym (ap (λ j. position (has_net (get_or m.nets j net).id) (take (i + 1) m.ports)) same ∙ here-more unset net))
          (λ (apart : k ≡ place → ⊥).
          get_or-set_other places place k (Some i) None apart ∙ before.each k net in_k
          ∙ sym (ap (position (has_net (get_or m.nets k net).id)) last-port ∙ position-push_no (has_net (get_or m.nets k net).id) (take i m.ports) port (other-net k net in_k apart)))
          (cases_eq k place);
    }

pub placed-own : (m : PModule) (ports : List PPort) (places : List (Option ℕ)) → ports ≡ m.ports → Placed m ports places → HasPorts m
placed-own m ports places all placed =
    let whole : Placed m m.ports places = subst (λ ports. Placed m ports places) all placed in
    record { there = whole.there; differ = whole.differ }

pub placed-all : (m : PModule) (ports : List PPort) (places : List (Option ℕ)) → ports ≡ m.ports → Placed m ports places → ArePortPlaces m places
placed-all m ports places all placed =
    let whole : Placed m m.ports places = subst (λ ports. Placed m ports places) all placed in
    record { many = whole.many; each = whole.each }

-- the port on a net has a place where there is one
is_some-place : (m : PModule) (id : NetId) → is_some (port_place m id) ≡ is_some (port_of m id)
is_some-place m id = by_place (port_place m id) refl
  where
    by_place : (o : Option ℕ) → port_place m id ≡ o → is_some (port_place m id) ≡ is_some (port_of m id)
    by_place None none = ap is_some none ∙ ap is_some (find-from_none (has_net id) m.ports (sym none))
    by_place (Some k) at =
        let item = item-there m.ports k (position-within (has_net id) m.ports k (sym at)) in
        ap is_some at ∙ sym (ap is_some (sym (find-from_place (has_net id) m.ports k (sym at)) ∙ item.1))

-- a leaf has a port on each net where each net has a place for one
pub cell-from_places : (m : PModule) (places : List (Option ℕ)) → ArePortPlaces m places → All (λ (place : Option ℕ). IsSome place) places → All (λ (net : PNet). IsSome (port_of m net.id)) m.nets
cell-from_places m places known some k net within =
    let id : NetId = (get_or m.nets k net).id in
    sym (is_some-place m id) ∙ ap is_some (sym (known.each k net within)) ∙ some k None (omega (arith, known.many))

pub places-from_cell : (m : PModule) (places : List (Option ℕ)) → ArePortPlaces m places → All (λ (net : PNet). IsSome (port_of m net.id)) m.nets → All (λ (place : Option ℕ). IsSome place) places
places-from_cell m places known some = All-from_get_or (λ (place : Option ℕ). IsSome place) places None (λ k within.
    let in_nets : k < length m.nets = omega (arith, known.many) in
    let net : PNet = (item-there m.nets k in_nets).0 in
    ap is_some (known.each k net in_nets) ∙ is_some-place m (get_or m.nets k net).id ∙ some k net in_nets)

-- the place of the port on a net, by the place of the net
pub port-at : (m : PModule) (places : List (Option ℕ)) (net : NetId) (k : ℕ) → ArePortPlaces m places → Some k ≡ position (λ (x : PNet). x.id.0 == net.0) m.nets → get_or places k None ≡ port_place m net
port-at m places net k known found =
    let in_nets : k < length m.nets = position-within (λ (x : PNet). x.id.0 == net.0) m.nets k found in
    let x : PNet = (item-there m.nets k in_nets).0 in
    let same : (get_or m.nets k x).id.0 ≡ net.0 = eqb-true (get_or m.nets k x).id.0 net.0 (position-Some (λ (y : PNet). y.id.0 == net.0) m.nets k x (sym found)).1 in
    known.each k x in_nets ∙ ap (λ n. position (λ (p : PPort). p.net.0 == n) m.ports) same

-- and no port is on a net that isn't there
pub port-nowhere : (m : PModule) (net : NetId) → HasPorts m → None ≡ position (λ (x : PNet). x.id.0 == net.0) m.nets → None ≡ port_place m net
port-nowhere m net ports none = sym (position-none (has_net net) m.ports (λ k d within.
    ne_eqb (get_or m.ports k d).net.0 net.0 (λ same.
    let there : IsSome (find (λ (x : PNet). x.id.0 == (get_or m.ports k d).net.0) m.nets) = ports.there k d within in
    let absent : None ≡ find (λ (x : PNet). x.id.0 == (get_or m.ports k d).net.0) m.nets =
    find-from_none (λ (x : PNet). x.id.0 == net.0) m.nets none ∙ ap (λ n. find (λ (x : PNet). x.id.0 == n) m.nets) (sym same)
    in
    absurd (false≢true (rw (← absent) at there)))))

-- These are the places of the ports of the first modules of a table.
pub record FirstPlaces (M : Plain) (count : ℕ) (all : List (Vec (Option ℕ) Global)) : Type 0 where
  pub many : length all ≡ count
  pub each : (k : ℕ) (m : PModule) (places : Vec (Option ℕ) Global) → k < count → ArePortPlaces (get_or M.modules k m) (get_or all k places).items

pub first_places-more : (M : Plain) (all : List (Vec (Option ℕ) Global)) (count : ℕ) (m : PModule) (places : Vec (Option ℕ) Global) → count < length M.modules → m ≡ get_or M.modules count m → FirstPlaces M count all → ArePortPlaces m places.items → FirstPlaces M (count + 1) (all ++ places ∷ [])
first_places-more M all count m places room at before here = record {
  many = omega (arith, length_push all places, before.many);
  each = λ k d f below.
      ⊎_elim
      (λ (earlier : k < count). rw (get_or_append_left all (places ∷ []) f k (omega (arith, before.many))) (before.each k d f earlier))
      (λ (from : count ≤ k).
      let same : k ≡ count = omega arith in
      let mine : get_or M.modules k d ≡ m = ap (λ i. get_or M.modules i d) same ∙ get_or_default M.modules count d m room ∙ sym at in
      let last : get_or (all ++ places ∷ []) k f ≡ places = get_or_push all places f k (before.many ∙ sym same) in
      rw (mine, last) here)
      (cases_lt k count);
}

pub sound-has_nets : (M : Plain) (m : PModule) → IsSoundModule M m → HasNets m
sound-has_nets M m sound = record { rise = sound.nets_rise; below = sound.nets_below; counter = sound.net_counter; ranges = sound.ranges }
