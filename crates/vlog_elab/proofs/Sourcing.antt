-- The bits of expressions.
use Rattle.std.proofs.Common.{arith, ◌≡◌, ℕ, suc, ◌+◌, ◌-◌, ◌/◌, ◌^◌, ◌<◌, ◌≤◌, [], ◌∷◌, ◌++◌, List, Option, Some, None, Bool, true, false, take, get_or, length, find, slice_get, is_some, unwrap_or, cond, bytes_eq, refl, sym, ◌∙◌, ap, append_assoc}
use Rattle.std.proofs.Math.Nat.{div-eq_of_lt}
use Rattle.std.proofs.lemmas.List.{append-nil}
use lib.Pow.{pow_mono}
use Rattle.std.proofs.lemmas.Option.{slice_get-get_or, get_or_from_slice_get}
use Rattle.std.specs.Option.{option_map}
use Rattle.emh_base.specs.declared.ids.NetId.{NetId}
use Rattle.emh_base.specs.declared.plain.Range.{Range}
use Rattle.emh_base.specs.declared.plain.Dir.TheVariants.{Input}
use Rattle.emh_base.specs.declared.plain.Conn.{Conn}
use Rattle.emh_base.specs.declared.plain.Src.{Src}
use Rattle.vlog_read.specs.declared.tree.At.{At}
use Rattle.vlog_read.specs.declared.tree.TConn.{TConn}
use Rattle.vlog_elab.specs.declared.interface.Port.{Port}
use Rattle.vlog_elab.specs.declared.scope.Net.{Net}
use Rattle.vlog_elab.specs.Named.{Named, named, place_of, is_there}
use Rattle.vlog_elab.specs.Connections.{port_named, net_range}
use Rattle.vlog_elab.specs.Table.{net_id, literal_bits, tie_of, is_to, conn_to, conn_of, conns_of}
use Rattle.vlog_elab.specs.inside.Pins.{pin_at, pins_from}
use Rattle.vlog_elab.proofs.Naming.{value-at, there-None}
use Rattle.vlog_elab.proofs.Numbering.{numbered_more}

-- a value has no bits past its type's
pub past_bits : (value place : ℕ) → value < 2 ^ 128 → 128 ≤ place → value / 2 ^ place ≡ 0
past_bits value place small past =
    let more : 2 ^ 128 ≤ 2 ^ place = pow_mono past in
    div-eq_of_lt (omega (arith, more))

-- one bit of a literal more
pub literal_more : (size done value : ℕ) (old bits : List Src) → done < size → old ++ literal_bits size value ≡ bits ++ literal_bits (size - done) value
    → old ++ literal_bits size value ≡ (bits ++ tie_of value (size - 1 - done) ∷ []) ++ literal_bits (size - (done + 1)) value
literal_more size done value old bits within h =
    let rest : size - done ≡ suc (size - (done + 1)) = omega arith in
    let place : size - 1 - done ≡ size - (done + 1) = omega arith in
    let step : literal_bits (size - done) value ≡ tie_of value (size - (done + 1)) ∷ literal_bits (size - (done + 1)) value = ap (λ n. literal_bits n value) rest in
    h ∙ ap (λ more. bits ++ more) step
    ∙ sym (append_assoc bits (tie_of value (size - (done + 1)) ∷ []) (literal_bits (size - (done + 1)) value))
    ∙ ap (λ place. (bits ++ tie_of value place ∷ []) ++ literal_bits (size - (done + 1)) value) (sym place)

-- Connections by name, found by the names of their ports.

pub pins_from-push : (n : ℕ) (cs : List TConn) (c : TConn) → pins_from n (cs ++ c ∷ []) ≡ pins_from n cs ++ pin_at (n + length cs) c.port
pins_from-push n [] c = let none : n + 0 ≡ n = omega arith in rw none (append-nil (pin_at n c.port))
pins_from-push n (b ∷ cs) c =
    let e : n + 1 + length cs ≡ n + length (b ∷ cs) = grind arith in
    ap (λ ps. pin_at n b.port ++ ps) (pins_from-push (n + 1) cs c ∙ (rw e refl)) ∙ sym (append_assoc (pin_at n b.port) (pins_from (n + 1) cs) (pin_at (n + length (b ∷ cs)) c.port))

abbrev the_unit : Unit {0}
the_unit = tt

-- the connection at the place that is found is the first of that port
pub pin-found : (n : ℕ) (q : List ℕ) (cs : List TConn) (k : ℕ) → named (pins_from n cs) q ≡ Some k → (n ≤ k) × (slice_get cs (k - n) ≡ find (is_to q) cs)
pin-found n q [] k h = absurd (cc h)
pin-found n q (c ∷ cs) k h = at_port (λ h. pin-found (n + 1) q cs k h) c.port h
  where
    later : (n + 1 ≤ k) × (slice_get cs (k - (n + 1)) ≡ find (is_to q) cs) → (n ≤ k) × (slice_get (c ∷ cs) (k - n) ≡ find (is_to q) cs)
    later ih = let e : k - n ≡ suc (k - (n + 1)) = omega arith in (omega arith, rw e ih.1)

    at_port : (named (pins_from (n + 1) cs) q ≡ Some k → (n + 1 ≤ k) × (slice_get cs (k - (n + 1)) ≡ find (is_to q) cs))
        → (p : Option At) → named (pin_at n p ++ pins_from (n + 1) cs) q ≡ Some k → (n ≤ k) × (slice_get (c ∷ cs) (k - n) ≡ cond (is_there (port_named p) q) (Some c) (find (is_to q) cs))
    at_port more None h = later (more h)
    at_port more (Some m) h = at_b (bytes_eq q m.name) h
      where
        at_b : (b : Bool) → cond b (Some n) (named (pins_from (n + 1) cs) q) ≡ Some k → (n ≤ k) × (slice_get (c ∷ cs) (k - n) ≡ cond (is_some (cond b (Some the_unit) None)) (Some c) (find (is_to q) cs))
        at_b true h = let same : n ≡ k = cc h in let e : k - n ≡ 0 = omega arith in (omega arith, rw e refl)
        at_b false h = later (more h)

pub no_pin-found : (n : ℕ) (q : List ℕ) (cs : List TConn) → named (pins_from n cs) q ≡ None → find (is_to q) cs ≡ None
no_pin-found n q [] h = refl
no_pin-found n q (c ∷ cs) h = at_port (λ h. no_pin-found (n + 1) q cs h) c.port h
  where
    at_port : (named (pins_from (n + 1) cs) q ≡ None → find (is_to q) cs ≡ None)
        → (p : Option At) → named (pin_at n p ++ pins_from (n + 1) cs) q ≡ None → cond (is_there (port_named p) q) (Some c) (find (is_to q) cs) ≡ None
    at_port more None h = more h
    at_port more (Some m) h = at_b (bytes_eq q m.name) h
      where
        at_b : (b : Bool) → cond b (Some n) (named (pins_from (n + 1) cs) q) ≡ None → cond (is_some (cond b (Some the_unit) None)) (Some c) (find (is_to q) cs) ≡ None
        at_b true h = absurd (cc h)
        at_b false h = more h

pub conn_to-by_name : (cs : List TConn) (c : TConn) (place : ℕ) (port : List ℕ) → Some c ≡ slice_get cs 0 → is_some c.port ≡ true → conn_to cs place port ≡ find (is_to port) cs
conn_to-by_name [] c place port h named = absurd (cc h)
conn_to-by_name (b ∷ cs) c place port h named = let same : b ≡ c = cc h in rw (same, named) refl

-- the connection that is found by its port
pub conn-found : (cs : List TConn) (c : TConn) (k place : ℕ) (port : List ℕ) → Some c ≡ slice_get cs 0 → is_some c.port ≡ true → Some k ≡ named (pins_from 0 cs) port
    → slice_get cs k ≡ conn_to cs place port
conn-found cs c k place port h names found =
    let e : k - 0 ≡ k = omega arith in
    (rw e at (pin-found 0 port cs k (sym found)).1) ∙ sym (conn_to-by_name cs c place port h names)

pub no_conn-found : (cs : List TConn) (c : TConn) (place : ℕ) (port : List ℕ) → Some c ≡ slice_get cs 0 → is_some c.port ≡ true → None ≡ named (pins_from 0 cs) port
    → None ≡ conn_to cs place port
no_conn-found cs c place port h names found = sym (conn_to-by_name cs c place port h names ∙ no_pin-found 0 port cs (sym found))

-- one connection more, of the port at its place
pub conns_more : (ns : Named Net) (ps : Named Port) (cs : List TConn) (i : ℕ) (made : Conn) → i < length ps
    → ((port : List ℕ × Port) → slice_get ps i ≡ Some port → made ≡ conn_of ns (conn_to cs i port.0))
    → conns_of ns (take (i + 1) ps) cs ≡ conns_of ns (take i ps) cs ++ made ∷ []
conns_more ns ps cs i made within says =
    let port : List ℕ × Port = get_or ps i ([], record { dir = Input; range = None }) in
    let is : slice_get ps i ≡ Some port = slice_get-get_or ps i ([], record { dir = Input; range = None }) within in
    let none : 0 + i ≡ i = omega arith in
    numbered_more (λ place (port : List ℕ × Port). conn_of ns (conn_to cs place port.0)) 0 ps i port within (sym (get_or_from_slice_get ps i port port is))
    ∙ (rw (none, says port is) refl)

-- The net of a name.

pub net-found : (ns : Named Net) (q : List ℕ) (place number : ℕ) (range : Option Range) → Some place ≡ place_of ns q → number ≡ place
    → range ≡ net_range (option_map (λ (e : List ℕ × Net). e.1) (slice_get ns place)) → ◌≡◌ {A = NetId × Option Range} (record { 0 = number }, range) (net_id ns q, net_range (named ns q))
net-found ns q place number range found is says =
    let id : number ≡ unwrap_or (place_of ns q) 0 = is ∙ ap (λ o. unwrap_or o 0) found in
    let at : range ≡ net_range (named ns q) = says ∙ ap net_range (value-at place q ns (sym found)) in
    rw (id, at) refl

pub no_net-found : (ns : Named Net) (q : List ℕ) → None ≡ place_of ns q → ◌≡◌ {A = NetId × Option Range} (record { 0 = 0 }, None) (net_id ns q, net_range (named ns q))
no_net-found ns q found =
    let id : unwrap_or (place_of ns q) 0 ≡ 0 = ap (λ o. unwrap_or o 0) (sym found) in
    let at : net_range (named ns q) ≡ None = ap net_range (there-None q ns (sym found)) in
    rw (id, at) refl
