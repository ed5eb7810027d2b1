-- The row of a module that passes is sound.
use Rattle.std.proofs.Common.{arith, ◌≡◌, ◌≢◌, ℕ, ◌+◌, ◌<◌, ◌==◌, [], ◌∷◌, ◌++◌, None, Some, Option, Bool, true, false, IsSome, List, map, find, length, get_or, slice_get, is_some, refl, sym, ◌∙◌, ap, subst, bytes_eq}
use Rattle.std.specs.Prelude.{unwrap_or}
use Rattle.std.specs.List.{All, AllPairs, IsDistinct}
use Rattle.std.specs.Option.{option_map}
use Rattle.std.proofs.lemmas.Bool.Decides.{nat_tests}
use Rattle.std.proofs.lemmas.List.{length-map}
use Rattle.std.proofs.lemmas.Map.Made.{IsDistinct-from_AllPairs}
use Rattle.std.proofs.lemmas.Option.{slice_get_within, slice_get-get_or, get_or_from_slice_get, slice_get-map}
use Rattle.std.proofs.lemmas.Slice.Eq.{bytes_eq-Decides}
use Rattle.emh_base.specs.declared.ids.NetId.{NetId}
use Rattle.emh_base.specs.declared.plain.PNet.{PNet}
use Rattle.emh_base.specs.declared.plain.PPort.{PPort}
use Rattle.emh_base.specs.declared.plain.PInst.{PInst}
use Rattle.emh_base.specs.declared.plain.PModule.{PModule}
use Rattle.emh_base.specs.declared.plain.Plain.{Plain}
use Rattle.flatten_rules.specs.Lookup.{net_of, port_of, width, width_of}
use Rattle.flatten_rules.specs.Sound.{IsAllowed, HasMaster, IsCell, IsSoundModule}
use Rattle.vlog_read.specs.declared.tree.At.{At}
use Rattle.vlog_read.specs.declared.tree.TInst.{TInst}
use Rattle.vlog_read.specs.declared.tree.TModule.{TModule}
use Rattle.vlog_elab.specs.declared.interface.Port.{Port}
use Rattle.vlog_elab.specs.declared.interface.Interface.{Interface}
use Rattle.vlog_elab.specs.declared.scope.Net.{Net}
use Rattle.flatten_rules.specs.Check.{first_broken}
use Rattle.vlog_elab.specs.Named.{Named, named, is_there, place_of, just_names, numbered}
use Rattle.vlog_elab.specs.Text.{is_leaf, header_names}
use Rattle.vlog_elab.specs.Interfaces.{places, said, port_of as port_said, ports, interface}
use Rattle.vlog_elab.specs.Connections.{inner_checks}
use Rattle.vlog_elab.specs.Table.{nets, insts, net_id, net_row, port_row, inst_row, row}
use Rattle.vlog_elab.specs.Counters.{HasCounters}
use Rattle.vlog_elab.proofs.Each.{all_map_of, all_numbered_of, pairs_none, pairs_cons, pairs_head, pairs_tail, pairs_append, numbered_rise, numbered_below}
use Rattle.vlog_elab.proofs.Numbering.{length-numbered}
use Rattle.vlog_elab.proofs.Rising.{insts_rise}
use Rattle.vlog_elab.proofs.Finding.{Differ, none_named, firsts_apart, place_named, own_place, find_there, numbered_at, found_by_number}
use Rattle.vlog_elab.proofs.Mentions.{mentions, inst_name, Tidy, names_tidy}
use Rattle.vlog_elab.proofs.Fitting.{InstFits, ModuleFits, module_fits, insts_fit}
use Rattle.vlog_elab.proofs.Saying.{PassesInside, all_map_both}
use Rattle.vlog_elab.proofs.Header.{HasAllowed, nets_allowed, PortFits, ports_fit, ports_apart, pairs_map_both, InHeader, leaf_nets, leaf_insts}
use Rattle.vlog_elab.proofs.Connected.{HasNamed, IsFaceOf, HasModule, inst_sound}

pub all_at : {X : Type 0} (P : X → Type 0) (xs : List X) (k : ℕ) (x : X) → All P xs → slice_get xs k ≡ Some x → P x
all_at P xs k x all at = subst P (get_or_from_slice_get xs k x x at) (all k x (slice_get_within xs k x at))

pub pairs_map : {X Y : Type 0} (R : Y → Y → Type 0) (f : X → Y) (xs : List X) → AllPairs (λ a b. R (f a) (f b)) xs → AllPairs R (map f xs)
pairs_map R f [] h = pairs_none R
pairs_map R f (x ∷ xs) h =
    pairs_cons R (f x) (map f xs) (all_map_of (R (f x)) (λ y. R (f x) (f y)) f (λ y h. h) xs (pairs_head (λ a b. R (f a) (f b)) x xs h))
    (pairs_map R f xs (pairs_tail (λ a b. R (f a) (f b)) x xs h))

map_numbered : {X Y Z : Type 0} (f : Y → Z) (g : X → Z) (make : ℕ → X → Y) → ((n : ℕ) (x : X) → f (make n x) ≡ g x) → (n : ℕ) (xs : List X) → map f (numbered make n xs) ≡ map g xs
map_numbered f g make is n [] = refl
map_numbered f g make is n (x ∷ xs) = ap (λ y. y ∷ map f (numbered make (n + 1) xs)) (is n x) ∙ ap (λ ys. g x ∷ ys) (map_numbered f g make is (n + 1) xs)

-- a name that the nets have is a net's of the row
pub net_by_name : (fs : Named Interface) (all_leaf : Bool) (id : ℕ) (m : TModule) (q : List ℕ) (net : Net) → named (nets m) q ≡ Some net
    → (k : ℕ) × (net_id (nets m) q ≡ record { 0 = k }) × (slice_get (nets m) k ≡ Some (q, net)) × (net_of (row fs all_leaf id m) (net_id (nets m) q) ≡ Some (net_row k (q, net)))
net_by_name fs all_leaf id m q net found =
    let place = place_named (nets m) q net found in
    let make : Option ℕ → NetId = λ o. record { 0 = unwrap_or o 0 } in
    let is : net_id (nets m) q ≡ record { 0 = place.0 } = ap make place.1 in
    (place.0, is, place.2, ap (net_of (row fs all_leaf id m)) is ∙ found_by_number (λ (y : PNet). y.id.0) net_row (λ n x. refl) (nets m) place.0 (q, net) place.2)

pub has_named : (fs : Named Interface) (all_leaf : Bool) (id : ℕ) (m : TModule) → HasNamed (row fs all_leaf id m) (nets m)
has_named fs all_leaf id m = λ q net found. ap width_of (net_by_name fs all_leaf id m q net found).3

-- Names.

abbrev pub Other : List ℕ → List ℕ → Type 0
Other a b = a ≢ b

all_swap : {X Y : Type 0} (R : X → Y → Type 0) (xs : List X) (ys : List Y) → All (λ y. All (λ x. R x y) xs) ys → All (λ x. All (R x) ys) xs
all_swap R xs ys h = λ k d lt i e within. h i e within k d lt

names_differ : (fs : Named Interface) (all_leaf : Bool) (id : ℕ) (m : TModule) → first_broken (inner_checks fs m) ≡ None
    → IsDistinct bytes_eq (map (λ (net : PNet). net.name) (row fs all_leaf id m).nets ++ map (λ (inst : PInst). inst.name) (row fs all_leaf id m).insts)
names_differ fs all_leaf id m inner =
    let ns : Named Net = nets m in
    let tidy : Tidy (record { nets = ns; insts = map inst_name (insts m) }) = names_tidy fs m inner in
    let net_names : List (List ℕ) = map (λ (e : List ℕ × Net). e.0) ns in
    let own : At × TInst → List ℕ = λ i. i.1.name.name in
    let inst_names : List (List ℕ) = map own (insts m) in
    let across : All (λ (y : List ℕ). All (λ (x : List ℕ). x ≢ y) net_names) inst_names
    = all_map_both (λ (i : List ℕ × Unit {0}). is_there ns i.0 ≡ false) (λ (y : List ℕ). All (λ (x : List ℕ). x ≢ y) net_names) inst_name own
    (λ i h. all_map_of (λ (x : List ℕ). x ≢ own i) (λ (e : List ℕ × Net). e.0 ≢ own i) (λ (e : List ℕ × Net). e.0) (λ e h. h) ns (none_named ns (own i) h)) (insts m) tidy.across in
    let all : AllPairs Other (net_names ++ inst_names)
    = pairs_append Other net_names inst_names (pairs_map Other (λ (e : List ℕ × Net). e.0) ns (firsts_apart (mentions m)))
    (pairs_map_both Differ Other inst_name own (λ a b h. h) (insts m) tidy.insts) (all_swap Other net_names inst_names across) in
    let one : map (λ (net : PNet). net.name) (row fs all_leaf id m).nets ≡ net_names = map_numbered (λ (net : PNet). net.name) (λ (e : List ℕ × Net). e.0) net_row (λ n x. refl) 0 ns in
    let two : map (λ (inst : PInst). inst.name) (row fs all_leaf id m).insts ≡ inst_names = map_numbered (λ (inst : PInst). inst.name) own (inst_row fs ns) (λ n x. refl) 0 (insts m) in
    rw (one, two) (IsDistinct-from_AllPairs bytes_eq-Decides (net_names ++ inst_names) all)

-- Ports.

-- a port has a net of its name and its range
abbrev HasNet : Named Net → List ℕ × Port → Type 0
HasNet ns p = (net : Net) × (named ns p.0 ≡ Some net) × (net.range ≡ p.1.range)

ports_have_nets : (fs : Named Interface) (leaf : Bool) (m : TModule) → PassesInside leaf m → ModuleFits (nets m) fs m → All (HasNet (nets m)) (ports m)
ports_have_nets fs leaf m p fits =
    let dirs : Named Port = (said (places m)).directions in
    all_map_of (HasNet (nets m)) (PortFits (nets m) dirs) (port_said dirs)
    (λ n f. (f.net, f.found, f.same ∙ ap (λ (p : Port). p.range) (sym (ap (λ (o : Option Port). unwrap_or o (record { dir = f.port.dir; range = None })) f.directed) ∙ own n f.port f.directed)))
    (header_names m.header) (ports_fit fs leaf m p fits)
  where
    own : (n : At) (port : Port) → named (said (places m)).directions n.name ≡ Some port → unwrap_or (named (said (places m)).directions n.name) (record { dir = port.dir; range = None }) ≡ (port_said (said (places m)).directions n).1
    own n port e = rw e refl

same_net : (fs : Named Interface) (all_leaf : Bool) (id : ℕ) (m : TModule) (a b : List ℕ × Port) → HasNet (nets m) a → HasNet (nets m) b → net_id (nets m) a.0 ≡ net_id (nets m) b.0 → a.0 ≡ b.0
same_net fs all_leaf id m a b one two same =
    let x = net_by_name fs all_leaf id m a.0 one.0 one.1 in
    let y = net_by_name fs all_leaf id m b.0 two.0 two.1 in
    let number : NetId → ℕ = λ n. n.0 in
    let places : x.0 ≡ y.0 = sym (ap number x.1) ∙ ap number same ∙ ap number y.1 in
    let both : Some (a.0, one.0) ≡ Some (b.0, two.0) = sym x.2 ∙ ap (slice_get (nets m)) places ∙ y.2 in
    let name : Option (List ℕ × Net) → List ℕ = λ o. (unwrap_or o (a.0, one.0)).0 in
    ap name both

-- A module's interface.

pub face_of : (fs : Named Interface) (all_leaf : Bool) (id : ℕ) (m : TModule) → PassesInside (is_leaf all_leaf m) m → first_broken (inner_checks fs m) ≡ None → IsFaceOf (interface all_leaf id m).1 (row fs all_leaf id m)
face_of fs all_leaf id m p inner = record {
  many = simp length-map;
  apart = ports_apart (is_leaf all_leaf m) m p;
  widths = λ k port d at.
      let own : HasNet (nets m) port = all_at (HasNet (nets m)) (ports m) k port (ports_have_nets fs (is_leaf all_leaf m) m p (module_fits fs m inner)) at in
      let made : get_or (map (port_row (nets m)) (ports m)) k d ≡ port_row (nets m) port
      = get_or_from_slice_get (map (port_row (nets m)) (ports m)) k (port_row (nets m) port) d (slice_get-map (port_row (nets m)) (ports m) k ∙ ap (option_map (port_row (nets m))) at) in
      ap (λ (x : PPort). width_of (net_of (row fs all_leaf id m) x.net)) made ∙ has_named fs all_leaf id m port.0 own.0 own.1 ∙ ap width own.2;
}

-- A leaf.

leaf_cell : (fs : Named Interface) (all_leaf : Bool) (id : ℕ) (m : TModule) → PassesInside true m → IsCell (row fs all_leaf id m)
leaf_cell fs all_leaf id m p = record {
  insts = rw (leaf_insts m p) refl;
  nets = λ k d lt.
      let within : k < length ns = omega (arith, lt, length_is) in
      let e : List ℕ × Net = get_or ns k (d.name, record { range = d.range; implied = false }) in
      let at : slice_get ns k ≡ Some e = slice_get-get_or ns k (d.name, record { range = d.range; implied = false }) within in
      let zero : 0 + k ≡ k = omega arith in
      let made : get_or (numbered net_row 0 ns) k d ≡ net_row k e = get_or_from_slice_get (numbered net_row 0 ns) k (net_row k e) d (numbered_at net_row 0 ns k e at ∙ ap (λ n. Some (net_row n e)) zero) in
      subst (λ (net : PNet). IsSome (port_of (row fs all_leaf id m) net.id)) (sym made) (has_port k e at (all_at (InHeader header) ns k e (leaf_nets m p) at));
  unlocked = refl;
}
  where
    ns : Named Net
    ns = nets m

    names : List At
    names = header_names m.header

    header : Named (Unit {0})
    header = just_names names

    dirs : Named Port
    dirs = (said (places m)).directions

    length_is : length (numbered net_row 0 ns) ≡ length ns
    length_is = length-numbered net_row 0 ns

    at_name : (k : ℕ) (e : List ℕ × Net) → slice_get ns k ≡ Some e → (j : ℕ) (o : Option At) → slice_get names j ≡ o → option_map (λ (n : At). let x : List ℕ × Unit {0} = (n.name, tt) in x) o ≡ Some (e.0, tt)
        → IsSome (find (λ (port : PPort). port.net.0 == k) (map (port_row ns) (ports m)))
    at_name k e at j None f g = absurd (cc g)
    at_name k e at j (Some n) f g =
        let first_name : Option (List ℕ × Unit {0}) → List ℕ = λ o. (unwrap_or o (e.0, tt)).0 in
        let same : n.name ≡ e.0 = ap first_name g in
        let port : List ℕ × Port = port_said dirs n in
        let here : slice_get (map (port_row ns) (ports m)) j ≡ Some (port_row ns port)
        = slice_get-map (port_row ns) (ports m) j ∙ ap (option_map (port_row ns)) (slice_get-map (port_said dirs) names j ∙ ap (option_map (port_said dirs)) f) in
        let place : place_of ns n.name ≡ Some k = ap (place_of ns) same ∙ own_place ns k e (firsts_apart (mentions m)) at in
        let number : (port_row ns port).net.0 ≡ k = ap (λ (o : Option ℕ). unwrap_or o 0) place in
        let passes : (port_row ns port).net.0 == k ≡ true = rw number (grind (arith, nat_tests)) in
        find_there (λ (port : PPort). port.net.0 == k) (map (port_row ns) (ports m)) j (port_row ns port) here passes

    has_port : (k : ℕ) (e : List ℕ × Net) → slice_get ns k ≡ Some e → is_there header e.0 ≡ true → IsSome (find (λ (port : PPort). port.net.0 == k) (map (port_row ns) (ports m)))
    has_port k e at there = at_o (named header e.0) refl there
      where
        at_o : (o : Option (Unit {0})) → named header e.0 ≡ o → is_some o ≡ true → IsSome (find (λ (port : PPort). port.net.0 == k) (map (port_row ns) (ports m)))
        at_o None f h = absurd (cc h)
        at_o (Some u) f h =
            let place = place_named header e.0 u f in
            at_name k e at place.0 (slice_get names place.0) refl
            (sym (slice_get-map (λ (n : At). let x : List ℕ × Unit {0} = (n.name, tt) in x) names place.0) ∙ place.2)

-- The row.

pub row_sound : (M : Plain) (fs : Named Interface) (all_leaf : Bool) (id : ℕ) (m : TModule) → PassesInside (is_leaf all_leaf m) m → first_broken (inner_checks fs m) ≡ None
    → ((q : List ℕ) (interface : Interface) → named fs q ≡ Some interface → HasModule M interface) → HasCounters (row fs all_leaf id m) → IsSoundModule M (row fs all_leaf id m)
row_sound M fs all_leaf id m p inner known counters =
    let ns : Named Net = nets m in
    let R : PModule = row fs all_leaf id m in
    let fits : ModuleFits ns fs m = module_fits fs m inner in
    let own : All (HasNet ns) (ports m) = ports_have_nets fs (is_leaf all_leaf m) m p fits in
    let zero : (n : ℕ) → 0 + n ≡ n = λ n. omega arith in
    record {
      names = names_differ fs all_leaf id m inner;
      nets_rise = numbered_rise (λ (net : PNet). net.id.0) net_row (λ n x. refl) 0 ns;
      nets_below = subst (λ (n : ℕ). All (λ (net : PNet). net.id.0 < n) R.nets) (zero (length ns)) (numbered_below (λ (net : PNet). net.id.0) net_row (λ n x. refl) 0 ns);
      net_counter = counters.0;
      ranges = all_numbered_of (λ (net : PNet). IsAllowed net.range) HasAllowed net_row (λ n x h. h) 0 ns (nets_allowed (is_leaf all_leaf m) m p);
      ports_there = all_map_of (λ (port : PPort). IsSome (net_of R port.net)) (HasNet ns) (port_row ns) (λ x h. ap is_some (net_by_name fs all_leaf id m x.0 h.0 h.1).3) (ports m) own;
      ports_differ = pairs_map (λ (a b : PPort). a.net ≢ b.net) (port_row ns) (ports m)
          (λ i j d lt within. λ same. ports_apart (is_leaf all_leaf m) m p i j d lt within (same_net fs all_leaf id m (get_or (ports m) i d) (get_or (ports m) j d) (own i d (omega (arith, lt, within))) (own j d within) same));
      insts_rise = insts_rise fs all_leaf id m;
      insts_below = subst (λ (n : ℕ). All (λ (inst : PInst). inst.id.0 < n) R.insts) (zero (length (insts m))) (numbered_below (λ (inst : PInst). inst.id.0) (inst_row fs ns) (λ n x. refl) 0 (insts m));
      inst_counter = counters.1;
      masters = all_numbered_of (HasMaster M R) (InstFits ns fs) (inst_row fs ns) (λ n i f. inst_sound M R ns fs n i (has_named fs all_leaf id m) known f) 0 (insts m) (insts_fit ns fs m fits);
      cell = λ leaf. leaf_cell fs all_leaf id m (subst (λ (b : Bool). PassesInside b m) leaf p);
    }
