-- What edits do to the connections of a module.
use Rattle.std.proofs.Common.{◌≡◌, ◌≢◌, ℕ, zero, suc, ◌==◌, ◌<◌, Bool, true, false, cond, ◌&&◌, List, [], ◌∷◌, ◌++◌, map, find, position, length, get_or, slice_get, slice_set, Option, Some, None, option_map, option_and_then, All, AllPairs, refl, sym, ap, ap₂, ◌∙◌, subst, arith}
use Rattle.std.specs.List.{flat_map, zip}
use Rattle.std.proofs.lemmas.Bool.Decides.{nat_tests}
use Rattle.std.proofs.lemmas.List.{map-append}
use Rattle.std.proofs.lemmas.List.Elements.{All-head, All-tail}
use Rattle.std.proofs.lemmas.Option.{slice_get_within, get_or_from_slice_get}
use Rattle.emh_base.specs.declared.ids.ModId.{ModId}
use Rattle.emh_base.specs.declared.ids.NetId.{NetId}
use Rattle.emh_base.specs.declared.ids.InstId.{InstId}
use Rattle.emh_base.specs.declared.plain.Src.{Src}
use Rattle.emh_base.specs.declared.plain.Conn.{Conn}
use Rattle.emh_base.specs.declared.plain.Conn.TheVariants.{Bits}
use Rattle.emh_base.specs.declared.plain.PPort.{PPort}
use Rattle.emh_base.specs.declared.plain.PInst.{PInst}
use Rattle.emh_base.specs.declared.plain.PModule.{PModule}
use Rattle.emh_base.specs.declared.plain.Plain.{Plain}
use Rattle.emh_base.specs.declared.state.State.{State}
use Rattle.flatten_rules.specs.Lookup.{module_of, inst_of, insts_of, port_of}
use Rattle.flatten_rules.specs.Domains.{ports_of}
use Rattle.flatten_rules.specs.Sound.{IsSound, IsSoundModule}
use Rattle.flatten_rules.proofs.Sound.{sound-module, master-there}
use Rattle.flatten_rules.proofs.Walks.{find-own, find-passes, id-of_found, some-there}
use Rattle.flatten_rules.proofs.Places.{find-from_place, find-from_none}
use Rattle.edit_rules.specs.Readers.{inst_in, master_of, master_id, port_place}
use Rattle.flatten_rules.specs.Changes.{with_module, with_conns}
use Rattle.flatten_rules.specs.InstChanges.{connect, set_conn}
use Rattle.edit_rules.specs.Insts.{connect_rules}
use Rattle.edit_rules.specs.Good.{IsGoodState}
use Rattle.edit_rules.proofs.GoodChecks.{Passes, first-passes, Opened, common-passes, there}
use Rattle.edit_rules.proofs.GoodTables.{lookup-mapped, each-mapped, changed, changed-keeps}
use Rattle.watch_kit.specs.Sinks.{Join, join, joins_of, joins}
use Rattle.watch_kit.proofs.SplitCounts.{rejoined}

net_id : ℕ → NetId
net_id n = record { 0 = n }

-- A change of one module.

module _ (M : Plain) (m : ModId) (f : PModule → PModule) (ids : (h : PModule) → (f h).id ≡ h.id) where
  pub changed-here : (h : PModule) → module_of M m ≡ Some h → module_of (with_module M m f) m ≡ Some (f h)
  changed-here h found =
      let number : h.id.0 ≡ m.0 = ap (λ (x : ModId). x.0) (id-of_found M m h found) in
      let here : (h.id.0 == m.0) ≡ true = grind (arith, nat_tests) in
      lookup-mapped M (changed m f) (changed-keeps (λ x. x.id) m f ids) m ∙ ap (option_map (changed m f)) found ∙ ap (λ c. Some (cond c (f h) h)) here

  pub ports-stay : ((h : PModule) → (f h).ports ≡ h.ports) → (x : ModId) → ports_of (module_of (with_module M m f) x) ≡ ports_of (module_of M x)
  ports-stay same x =
      each-mapped M (changed m f) (changed-keeps (λ y. y.id) m f ids) (λ new old. ports_of new ≡ ports_of old) refl (λ h own. changed-keeps (λ y. y.ports) m f same h) x

module _ (M N : Plain) (same : (x : ModId) → ports_of (module_of N x) ≡ ports_of (module_of M x)) where
  joins-same : (x : PInst) → joins_of N x ≡ joins_of M x
  joins-same x = ap (λ ps. map (join x.id) (zip ps x.conns)) (same x.master)

  pub all-same : (xs : List PInst) → flat_map (joins_of N) xs ≡ flat_map (joins_of M) xs
  all-same [] = refl
  all-same (x ∷ xs) = ap₂ (λ (a b : List Join). a ++ b) (joins-same x) (all-same xs)

-- One connection is another.

and-right : (a b : Bool) → b ≡ false → (a && b) ≡ false
and-right true b e = e
and-right false b e = refl

and-true : (a b : Bool) → a ≡ true → b ≡ true → (a && b) ≡ true
and-true true b x y = y
and-true false b x y = x

-- that of another instance
pub other-inst : (id i : InstId) (p : NetId) (conn : Conn) → (id.0 == i.0) ≡ false → (qs : List (PPort × Conn)) → map (rejoined i p conn) (map (join id) qs) ≡ map (join id) qs
other-inst id i p conn other [] = refl
other-inst id i p conn other (q ∷ qs) =
    ap₂ (λ (x : Join) (xs : List Join). x ∷ xs) (ap (λ c. cond (c && (q.0.net.0 == p.0)) (record (join id q) { conn = conn }) (join id q)) other) (other-inst id i p conn other qs)

-- that of a port that isn't among these
no-port : (id i : InstId) (p : NetId) (conn : Conn) (ports : List PPort) (conns : List Conn) → All (λ (q : PPort). (q.net.0 == p.0) ≡ false) ports
    → map (rejoined i p conn) (map (join id) (zip ports conns)) ≡ map (join id) (zip ports conns)
no-port id i p conn [] conns none = refl
no-port id i p conn (q ∷ qs) [] none = refl
no-port id i p conn (q ∷ qs) (c ∷ cs) none =
    let None-of : PPort → Type 0 = λ x. (x.net.0 == p.0) ≡ false in
    ap₂ (λ (x : Join) (xs : List Join). x ∷ xs)
    (ap (λ t. cond t (record (join id (q, c)) { conn = conn }) (join id (q, c))) (and-right (id.0 == i.0) (q.net.0 == p.0) (All-head None-of q qs none)))
    (no-port id i p conn qs cs (All-tail None-of q qs none))

abbrev NetsDiffer : List PPort → Type 0
NetsDiffer ports = AllPairs (λ (a b : PPort). a.net ≢ b.net) ports

-- that of the port at this place
set-port : (id i : InstId) (p : NetId) (conn : Conn) → (id.0 == i.0) ≡ true → (ports : List PPort) (conns : List Conn) (k : ℕ) (q : PPort) → slice_get ports k ≡ Some q → (q.net.0 == p.0) ≡ true → NetsDiffer ports
    → map (join id) (zip ports (slice_set conns k conn)) ≡ map (rejoined i p conn) (map (join id) (zip ports conns))
unfolding net_id
set-port id i p conn here [] conns k q at own differ = refl
set-port id i p conn here (r ∷ rs) [] k q at own differ = refl
set-port id i p conn here (r ∷ rs) (c ∷ cs) zero q at own differ =
    let same : r ≡ q = let e : Some r ≡ Some q = at in cc in
    let own_r : (r.net.0 == p.0) ≡ true = subst (λ (x : PPort). (x.net.0 == p.0) ≡ true) (sym same) own in
    ap₂ (λ (x : Join) (xs : List Join). x ∷ xs)
    (sym (ap (λ t. cond t (record (join id (r, c)) { conn = conn }) (join id (r, c))) (and-true (id.0 == i.0) (r.net.0 == p.0) here own_r)))
    (sym (no-port id i p conn rs cs (λ k d within.
    let apart : r.net ≢ (get_or rs k d).net = differ zero (suc k) d (omega arith) (omega arith) in
    let ne : (get_or rs k d).net.0 ≢ r.net.0 = λ e. apart (ap net_id (sym e)) in
    grind (arith, nat_tests))))
set-port id i p conn here (r ∷ rs) (c ∷ cs) (suc k) q at own differ =
    let within : k < length rs = slice_get_within rs k q at in
    let is : get_or rs k q ≡ q = get_or_from_slice_get rs k q q at in
    let apart : r.net ≢ (get_or rs k q).net = differ zero (suc k) q (omega arith) (omega arith) in
    let ne : r.net.0 ≢ q.net.0 = λ e. apart (ap net_id e ∙ ap (λ (x : PPort). x.net) (sym is)) in
    let no : (r.net.0 == p.0) ≡ false = grind (arith, nat_tests) in
    ap₂ (λ (x : Join) (xs : List Join). x ∷ xs)
    (sym (ap (λ t. cond t (record (join id (r, c)) { conn = conn }) (join id (r, c))) (and-right (id.0 == i.0) (r.net.0 == p.0) no)))
    (set-port id i p conn here rs cs k q at own (λ a b d before inside. differ (suc a) (suc b) d (omega arith) (omega arith)))

-- the connection of an instance at the place of a port
at-place : (id i : InstId) (p : NetId) (conn : Conn) → (id.0 == i.0) ≡ true → (ports : List PPort) (conns : List Conn) (q : PPort) → NetsDiffer ports → find (λ x. x.net.0 == p.0) ports ≡ Some q
    → (place : Option ℕ) → place ≡ position (λ x. x.net.0 == p.0) ports → map (join id) (zip ports (set_conn place conn conns)) ≡ map (rejoined i p conn) (map (join id) (zip ports conns))
at-place id i p conn here ports conns q differ found None at =
    let none : None ≡ find (λ x. x.net.0 == p.0) ports = find-from_none (λ x. x.net.0 == p.0) ports at in
    let never : None ≡ Some q = none ∙ found in
    absurd (cc)
at-place id i p conn here ports conns q differ found (Some k) at =
    set-port id i p conn here ports conns k q (find-from_place (λ x. x.net.0 == p.0) ports k at ∙ found) (find-passes (λ x. x.net.0 == p.0) ports q found) differ

-- Connect.

module _ (M N : Plain) (same : (x : ModId) → ports_of (module_of N x) ≡ ports_of (module_of M x)) (i : InstId) (p : NetId) (conn : Conn) (change : List Conn → List Conn) where
  abbrev Fits : PInst → Type 0
  Fits x = (x.id.0 == i.0) ≡ true → map (join x.id) (zip (ports_of (module_of M x.master)) (change x.conns)) ≡ map (rejoined i p conn) (joins_of M x)

  abbrev at_inst : PInst → PInst
  at_inst x = cond (x.id.0 == i.0) (with_conns change x) x

  one-inst : (c : Bool) (x : PInst) → c ≡ (x.id.0 == i.0) → Fits x → joins_of N (cond c (with_conns change x) x) ≡ map (rejoined i p conn) (joins_of M x)
  one-inst true x is fits = joins-same M N same (with_conns change x) ∙ fits (sym is)
  one-inst false x is fits = joins-same M N same x ∙ sym (other-inst x.id i p conn (sym is) (zip (ports_of (module_of M x.master)) x.conns))

  all-insts : (xs : List PInst) → All Fits xs → flat_map (joins_of N) (map at_inst xs) ≡ map (rejoined i p conn) (flat_map (joins_of M) xs)
  all-insts [] fits = refl
  all-insts (x ∷ xs) fits =
      ap₂ (λ (a b : List Join). a ++ b) (one-inst (x.id.0 == i.0) x refl (All-head Fits x xs fits)) (all-insts xs (All-tail Fits x xs fits))
      ∙ sym (map-append (rejoined i p conn) (joins_of M x) (flat_map (joins_of M) xs))

-- after a Connect the one connection is the new one, and all others are as they were
pub joins-connect : (S : State) (m : ModId) (i : InstId) (p : NetId) (bits : List Src) → IsGoodState S → Passes (connect_rules S m i p bits)
    → joins (connect S.plain m i p bits) m ≡ map (rejoined i p (Bits bits)) (joins S.plain m)
joins-connect S m i p bits good passes =
    let a = common-passes S m passes in
    let b = first-passes a.1 in
    let c = first-passes b.1 in
    let M : Plain = S.plain in
    let o : Opened S m = a.0 in
    let h : PModule = o.holder in
    let place : Option ℕ = port_place (master_of M (inst_in M m i)) p in
    let change : List Conn → List Conn = set_conn place (Bits bits) in
    let at : PInst → PInst = λ x. cond (x.id.0 == i.0) (with_conns change x) x in
    let f : PModule → PModule = λ y. record y { insts = map at y.insts } in
    let N : Plain = with_module M m f in
    let sound : IsSound M = good.table.sound in
    let s : IsSoundModule M h = sound-module M m h sound o.found in
    let same : (x : ModId) → ports_of (module_of N x) ≡ ports_of (module_of M x) = ports-stay M m f (λ y. refl) (λ y. refl) in
    let fits : All (Fits M N same i p (Bits bits) change) h.insts = λ k d within. λ here.
    let x : PInst = get_or h.insts k d in
    let number : x.id.0 ≡ i.0 = grind (arith, nat_tests) in
    let own : inst_of h x.id ≡ Some x = find-own (λ (y : PInst). y.id.0) h.insts s.insts_rise k d within in
    let make : ℕ → InstId = λ n. record { 0 = n } in
    let found : inst_in M m i ≡ Some x = ap (option_and_then (λ (y : PModule). inst_of y i)) o.found ∙ ap (inst_of h) (sym (ap make number)) ∙ own in
    let master = some-there (module_of M x.master) (master-there M h x (s.masters k d within)) in
    let r : PModule = master.0 in
    let rs : IsSoundModule M r = sound-module M x.master r sound master.1 in
    let port = there (option_and_then (λ (y : PModule). port_of y p) (module_of M (master_id (inst_in M m i)))) c.0 in
    let port_found : port_of r p ≡ Some port.0 =
    sym (ap (option_and_then (λ (y : PModule). port_of y p)) (ap (λ (y : Option PInst). module_of M (master_id y)) found ∙ master.1)) ∙ port.1 in
    let place_is : place ≡ position (λ y. y.net.0 == p.0) r.ports = ap (λ (y : Option PInst). port_place (master_of M y) p) found ∙ ap (λ (y : Option PModule). port_place y p) master.1 in
    let At : List PPort → Type 0 = λ ports. map (join x.id) (zip ports (set_conn place (Bits bits) x.conns)) ≡ map (rejoined i p (Bits bits)) (map (join x.id) (zip ports x.conns)) in
    subst At (sym (ap ports_of master.1)) (at-place x.id i p (Bits bits) here r.ports x.conns port.0 rs.ports_differ port_found place place_is)
    in
    ap (λ (y : Option PModule). flat_map (joins_of N) (insts_of y)) (changed-here M m f (λ y. refl) h o.found)
    ∙ all-insts M N same i p (Bits bits) change h.insts fits
    ∙ ap (λ (y : Option PModule). map (rejoined i p (Bits bits)) (flat_map (joins_of M) (insts_of y))) (sym o.found)
