-- A port more and a port less keep a good state good.
use Rattle.std.proofs.Common.{◌≡◌, ◌≢◌, ℕ, zero, suc, ◌==◌, ◌<◌, ◌≤◌, Bool, true, false, cond, not, ⊎_elim, List, [], ◌∷◌, ◌++◌, map, filter, find, position, length, get_or, slice_get, remove, Option, Some, None, option_map, option_and_then, is_some, IsSome, MatchOption, All, AllPairs, bytes_eq, refl, sym, ap, ◌∙◌, subst, arith}
use Rattle.std.specs.List.{IsDistinct}
use Rattle.std.specs.Option.{option_or}
use Rattle.std.proofs.lemmas.Bool.{true≢false, false≢true, cases_lt, false_from_ne_true}
use Rattle.std.proofs.lemmas.Bool.Decides.{nat_tests}
use Rattle.std.proofs.lemmas.Option.{slice_get_within, get_or_from_slice_get}
use Rattle.std.proofs.lemmas.List.Elements.{All-map, All-weaker, All-filter, All-push, All-nil, All-cons, All-head, All-tail}
use Rattle.std.proofs.lemmas.List.Folds.{find-append}
use Rattle.std.proofs.lemmas.List.Kept.{AllPairs-filter}
use Rattle.std.proofs.lemmas.List.Quantifiers.{all_pairs_push}
use Rattle.emh_base.specs.declared.ids.ModId.{ModId}
use Rattle.emh_base.specs.declared.ids.NetId.{NetId}
use Rattle.emh_base.specs.declared.plain.Dir.{Dir}
use Rattle.emh_base.specs.declared.plain.Range.{Range}
use Rattle.emh_base.specs.declared.plain.Conn.{Conn}
use Rattle.emh_base.specs.declared.plain.Conn.TheVariants.{Open}
use Rattle.emh_base.specs.declared.plain.PNet.{PNet}
use Rattle.emh_base.specs.declared.plain.PPort.{PPort}
use Rattle.emh_base.specs.declared.plain.PInst.{PInst}
use Rattle.emh_base.specs.declared.plain.PModule.{PModule}
use Rattle.emh_base.specs.declared.plain.Plain.{Plain}
use Rattle.emh_base.specs.declared.state.State.{State}
use Rattle.emh_base.specs.declared.edit.Edit.TheVariants.{CreatePort, DeletePort}
use Rattle.flatten_rules.specs.Lookup.{module_of, net_of, port_of, width, width_of}
use Rattle.flatten_rules.specs.Limits.{bits_of, IsWithin}
use Rattle.flatten_rules.specs.Sound.{IsAllowed, FitPorts, HasMaster, IsSoundModule}
use Rattle.flatten_rules.proofs.Sound.{All-find, sound-module}
use Rattle.flatten_rules.proofs.Places.{find-from_place, found-nowhere}
use Rattle.flatten_rules.proofs.Walks.{find-passes, id-of_found, id-of_net, some-there}
use Rattle.edit_rules.specs.Readers.{port_in, port_place, is_net_used}
use Rattle.flatten_rules.specs.Limits.{has_too_many_bits}
use Rattle.flatten_rules.specs.Changes.{with_module, at_instances, with_insts, with_conns}
use Rattle.edit_rules.specs.Nets.{create_port, create_port_rules, with_port, with_net, new_net, delete_port, delete_port_rules, without_port, without_conn}
use Rattle.edit_rules.specs.Good.{IsGoodState}
use Rattle.edit_rules.specs.Apply.{after}
use Rattle.edit_rules.proofs.OrderLemmas.{rises-map}
use Rattle.edit_rules.proofs.GoodWalks.{AreBelow, IsBelow, short-below, size-below}
use Rattle.edit_rules.proofs.GoodTables.{chosen_by, KeepsConn, fit_kept, master_kept, mapped, Same, IsOwn, lookup-mapped, cells-mapped, inner-mapped, below-mapped, within-mapped, sound-mapped, map-through, changed, changed-keeps, each-changed}
use Rattle.edit_rules.proofs.GoodChecks.{Passes, first-passes, Opened, common-passes, there}
use Rattle.edit_rules.proofs.GoodStates.{KeepsGood, stays}
use Rattle.edit_rules.proofs.GoodNames as names
use Rattle.edit_rules.proofs.GoodNames.{net_name, inst_name, NamesApart}
use Rattle.edit_rules.proofs.GoodKept.{keeps_wide, no_cell, holder-sound, holder-names}
use Rattle.edit_rules.proofs.GoodInsts.{below-map}
use Rattle.edit_rules.proofs.GoodNets.{sum-filter, Unnamed, unnamed, keeps-unnamed, other-net, net-same, net-wide, with_net-sound, few-bits}

map-both : {X : Type 0} (f g : X → X) (xs : List X) → map g (map f xs) ≡ map (λ x. g (f x)) xs
map-both f g [] = refl
map-both f g (x ∷ xs) = ap (λ ys. g (f x) ∷ ys) (map-both f g xs)

-- A module whose ports change, and each of its instances, whose connections do.
module _ (S : State) (id : ModId) (f : PModule → PModule) (d : List Conn → List Conn) (ids : (m : PModule) → (f m).id ≡ m.id) (o : Opened S id) (good : IsGoodState S) where
  -- an instance, as it is after the change
  abbrev pub joined : PInst → PInst
  joined inst = cond (inst.master.0 == id.0) (with_conns d inst) inst

  abbrev pub joined_module : PModule → PModule
  joined_module x = with_insts joined (changed id f x)

  abbrev pub joined_table : Plain
  joined_table = mapped joined_module S.plain

  -- the module of the edit, after it
  abbrev pub target : PModule
  target = with_insts joined (f o.holder)

  pub table-is : joined_table ≡ at_instances (with_module S.plain id f) id (with_conns d)
  table-is =
      let to : List PModule → Plain = λ ms. record (S.plain) { modules = ms } in
      sym (ap to (map-both (changed id f) (with_insts joined) S.plain.modules))

  joined-keeps : {Y : Type 0} (part : PInst → Y) → ((x : PInst) → part (with_conns d x) ≡ part x) → (x : PInst) → part (joined x) ≡ part x
  joined-keeps part same x = chosen_by (λ y. part y ≡ part x) (x.master.0 == id.0) (with_conns d x) x (λ here. same x) refl

  g_ids : (m : PModule) → (joined_module m).id ≡ m.id
  g_ids m = changed-keeps (λ x. x.id) id f ids m

  pub each-joined : (P : PModule → PModule → Type 0) → P target o.holder → ((x : PModule) → P (with_insts joined x) x) → (x : PModule) → IsOwn S.plain x → P (joined_module x) x
  each-joined P here there = each-changed (λ new old. P (with_insts joined new) old) S.plain id f o.holder o.found here there

  same-id : (at : ModId) → at.0 ≡ id.0 → at ≡ id
  same-id at equal = let make : ℕ → ModId = λ n. record { 0 = n } in ap make equal

  found-target : (at : ModId) → at.0 ≡ id.0 → module_of joined_table at ≡ Some target
  found-target at equal =
      let holder_id : o.holder.id.0 ≡ id.0 = ap (λ (x : ModId). x.0) (id-of_found S.plain id o.holder o.found) in
      let is : (o.holder.id.0 == id.0) ≡ true = grind (arith, nat_tests) in
      lookup-mapped S.plain joined_module g_ids at ∙ ap (option_map joined_module) (ap (module_of S.plain) (same-id at equal) ∙ o.found)
      ∙ ap (λ b. Some (with_insts joined (cond b (f o.holder) o.holder))) is

  found-other : (at : ModId) (m : PModule) → (at.0 == id.0) ≡ false → module_of S.plain at ≡ Some m → module_of joined_table at ≡ Some (with_insts joined m)
  found-other at m apart found =
      lookup-mapped S.plain joined_module g_ids at ∙ ap (option_map joined_module) found
      ∙ ap (λ (x : ModId). Some (with_insts joined (cond (x.0 == id.0) (f m) m))) (id-of_found S.plain at m found)
      ∙ ap (λ b. Some (with_insts joined (cond b (f m) m))) apart

  -- an instance is connected as its master's ports ask, after the change too
  pub has-joined : (x n : PModule) (y : PInst) → HasMaster S.plain x y → All (KeepsConn x n) y.conns
      → (FitPorts x o.holder o.holder.ports y.conns → FitPorts n target target.ports (d y.conns)) → HasMaster joined_table n (joined y)
  has-joined x n y has keeps fits = by (y.master.0 == id.0) refl
    where
      by : (b : Bool) → (y.master.0 == id.0) ≡ b → HasMaster joined_table n (cond b (with_conns d y) y)
      by true is =
          let equal : y.master.0 ≡ id.0 = grind (arith, nat_tests) in
          let Old : Option PModule → Type 0 = λ m. MatchOption m ⊥ (λ master. FitPorts x master master.ports y.conns) in
          let New : Option PModule → Type 0 = λ m. MatchOption m ⊥ (λ master. FitPorts n master master.ports (d y.conns)) in
          subst New (sym (found-target y.master equal)) (fits (subst Old (ap (module_of S.plain) (same-id y.master equal) ∙ o.found) has))
      by false is =
          master_kept S.plain joined_table x n y
          (λ master found. (with_insts joined master, found-other y.master master is found, record { ports = refl; widths = λ k e within. refl })) keeps has

  pub same-names : (insts : List PInst) → map inst_name (map joined insts) ≡ map inst_name insts
  same-names insts = map-through inst_name joined (joined-keeps inst_name (λ y. refl)) insts

  pub joined-rise : (insts : List PInst) → AllPairs (λ (a b : PInst). a.id.0 < b.id.0) insts → AllPairs (λ (a b : PInst). a.id.0 < b.id.0) (map joined insts)
  joined-rise insts rise = rises-map (λ (y : PInst). y.id.0) joined (joined-keeps (λ y. y.id.0) (λ y. refl)) insts rise

  pub joined-below : (next : ℕ) (insts : List PInst) → All (λ (y : PInst). y.id.0 < next) insts → All (λ (y : PInst). y.id.0 < next) (map joined insts)
  joined-below next insts below =
      All-map (λ (y : PInst). y.id.0 < next) joined insts
      (All-weaker (λ (y : PInst). y.id.0 < next) (λ (y : PInst). (joined y).id.0 < next) (λ y low. rw (joined-keeps (λ z. z.id.0) (λ z. refl) y) low) insts below)

  module _ (insts : (m : PModule) → (f m).insts ≡ m.insts) (fits : (x n : PModule) (y : PInst) → All (KeepsConn x n) y.conns → FitPorts x o.holder o.holder.ports y.conns → FitPorts n target target.ports (d y.conns)) where
    -- the other modules
    other-sound : (x : PModule) → IsSoundModule S.plain x → IsSoundModule joined_table (with_insts joined x)
    other-sound x s = record {
      names = subst (λ ns. IsDistinct bytes_eq (map net_name x.nets ++ ns)) (sym (same-names x.insts)) s.names;
      nets_rise = s.nets_rise;
      nets_below = s.nets_below;
      net_counter = s.net_counter;
      ranges = s.ranges;
      ports_there = s.ports_there;
      ports_differ = s.ports_differ;
      insts_rise = joined-rise x.insts s.insts_rise;
      insts_below = joined-below x.next_inst x.insts s.insts_below;
      inst_counter = s.inst_counter;
      masters = All-map (HasMaster joined_table (with_insts joined x)) joined x.insts (λ k e within.
          let y : PInst = get_or x.insts k e in
          let keeps : All (KeepsConn x (with_insts joined x)) y.conns = λ j c inside. keeps_wide x (with_insts joined x) (λ net. omega arith) (get_or y.conns j c) in
          has-joined x (with_insts joined x) y (s.masters k e within) keeps (fits x (with_insts joined x) y keeps));
      cell = λ leaf. let cell = s.cell leaf in record { insts = ap (map joined) cell.insts; nets = cell.nets; unlocked = cell.unlocked };
    }

    pub joined-isbelow : IsBelow joined_table S.plain Same
    joined-isbelow =
        below-mapped S.plain joined_module g_ids
        (each-joined (λ new old. AreBelow Same new.insts old.insts)
        (subst (λ ys. AreBelow Same (map joined ys) o.holder.insts) (sym (insts o.holder)) (below-map joined (joined-keeps (λ y. y.master) (λ y. refl)) o.holder.insts))
        (λ x. below-map joined (joined-keeps (λ y. y.master) (λ y. refl)) x.insts))

    pub joined-within : bits_of (Some target) ≤ bits_of (Some o.holder) → IsWithin joined_table S.top
    joined-within few =
        within-mapped S.plain joined_module g_ids S.top good.table.sound good.table.within joined-isbelow
        (each-joined (λ new old. bits_of (Some new) ≤ bits_of (Some old)) few (λ x. omega arith))

    pub joined-good : ((m : PModule) → (f m).leaf ≡ m.leaf) → ((m : PModule) → (f m).name ≡ m.name) → IsSoundModule joined_table target → IsWithin joined_table S.top → KeepsGood S.plain joined_table S.top
    joined-good leaf name here within =
        let Kept : PModule → PModule → Type 0 = λ new old. IsSoundModule S.plain old → old.leaf ≡ true → new ≡ old in
        record {
          table = record {
            sound = sound-mapped S.plain joined_module g_ids good.table.sound
                (subst (IsDistinct bytes_eq) (sym (map-through (λ (m : PModule). m.name) joined_module (λ m. changed-keeps (λ x. x.name) id f name m) S.plain.modules)) good.table.sound.names)
                (each-joined (λ new old. IsSoundModule S.plain old → IsSoundModule joined_table new) (λ s. here) other-sound) within.depth;
            inner = inner-mapped S.plain joined_module g_ids (λ m. changed-keeps (λ x. x.leaf) id f leaf m) S.top good.table.inner;
            within = within;
          };
          cells = cells-mapped S.plain joined_module g_ids (λ m own is.
              each-joined Kept (λ s is. absurd (true≢false (sym is ∙ o.inner)))
              (λ x s is.
              let none : x.insts ≡ [] = (s.cell is).insts in
              let put : List PInst → PModule = λ ys. record x { insts = ys } in
              ap (λ ys. put (map joined ys)) none ∙ sym (ap put none))
              m own (sound-module S.plain m.id m good.table.sound own) is);
        }

-- CreatePort

fit-push : (m master : PModule) (ports : List PPort) (conns : List Conn) (port : PPort) → FitPorts m master ports conns → FitPorts m master (ports ++ port ∷ []) (conns ++ Open ∷ [])
fit-push m master [] [] port fits = (tt, tt)
fit-push m master [] (conn ∷ conns) port fits = absurd fits
fit-push m master (p ∷ ports) [] port fits = absurd fits
fit-push m master (p ∷ ports) (conn ∷ conns) port fits = (fits.0, fit-push m master ports conns port fits.1)

found-last : {X : Type 0} (o : Option X) (b : Bool) (x : X) → b ≡ true → is_some (option_or o (cond b (Some x) None)) ≡ true
found-last None true x is = refl
found-last None false x is = absurd (false≢true is)
found-last (Some y) b x is = refl

-- the net of the new port is there
new-there : (m : PModule) (name : List ℕ) (range : Option Range) → IsSome (net_of (with_net name range m) (record { 0 = m.next_net }))
new-there m name range =
    let own : NetId = record { 0 = m.next_net } in
    let same : (m.next_net == m.next_net) ≡ true = grind (arith, nat_tests) in
    ap (λ (x : Option PNet). is_some x) (find-append (λ (x : PNet). x.id.0 == own.0) m.nets (new_net m.next_net name range ∷ []))
    ∙ found-last (find (λ (x : PNet). x.id.0 == own.0) m.nets) (m.next_net == m.next_net) (new_net m.next_net name range) same

-- and no port was on it
port-fresh : (M : Plain) (m : PModule) → IsSoundModule M m → All (λ (port : PPort). port.net ≢ record { 0 = m.next_net }) m.ports
port-fresh M m s k d within = λ same.
    let port : PPort = get_or m.ports k d in
    let net = some-there (net_of m port.net) (s.ports_there k d within) in
    let low : net.0.id.0 < m.next_net = All-find (λ (x : PNet). x.id.0 < m.next_net) (λ (x : PNet). x.id.0 == port.net.0) m.nets net.0 s.nets_below net.1 in
    let is : net.0.id.0 ≡ port.net.0 = ap (λ (x : NetId). x.0) (id-of_net m port.net net.0 net.1) in
    let at : port.net.0 ≡ m.next_net = ap (λ (x : NetId). x.0) same in
    omega (arith, low, is, at)

pub create_port-good : (S : State) (id : ModId) (name : List ℕ) (dir : Dir) (range : Option Range) → IsGoodState S → Passes (create_port_rules S id name dir range) → IsGoodState (after S (CreatePort id name dir range))
create_port-good S id name dir range good p =
    let a = common-passes S id p in
    let b = first-passes a.1 in
    let c = first-passes b.1 in
    let q = first-passes c.1 in
    let e = first-passes q.1 in
    let o : Opened S id = a.0 in
    let m : PModule = o.holder in
    let f : PModule → PModule = with_port name dir range in
    let d : List Conn → List Conn = λ conns. conns ++ Open ∷ [] in
    let port : PPort = record { net = record { 0 = m.next_net }; dir = dir } in
    let T : PModule = target S id f d (λ x. refl) o good in
    let N : Plain = joined_table S id f d (λ x. refl) o good in
    let is : N ≡ create_port S.plain id name dir range = table-is S id f d (λ x. refl) o good in
    let s = holder-sound S id f (λ x. refl) o good in
    let made = with_net-sound S id name range o good b.0 c.0 q.0 in
    let same : All (λ (x : PPort). net_of T x.net ≡ net_of m x.net) m.ports = λ k x within. net-same m name range (get_or m.ports k x).net (s.ports_there k x within) in
    let fits : (x n : PModule) (y : PInst) → All (KeepsConn x n) y.conns → FitPorts x m m.ports y.conns → FitPorts n T (m.ports ++ port ∷ []) (d y.conns) =
    λ x n y keeps fit. fit-push n T m.ports y.conns port (fit_kept x n m T m.ports y.conns (λ k z within. ap width_of (same k z within)) keeps fit)
    in
    let below : IsBelow N S.plain Same = joined-isbelow S id f d (λ x. refl) o good (λ x. refl) fits in
    let sound : IsSoundModule N T = record {
      names = subst (λ ns. IsDistinct bytes_eq (map net_name (m.nets ++ new_net m.next_net name range ∷ []) ++ ns)) (sym (same-names S id f d (λ x. refl) o good m.insts)) made.names;
      nets_rise = made.rise;
      nets_below = made.below;
      net_counter = made.counter;
      ranges = made.ranges;
      ports_there = All-push (λ (x : PPort). IsSome (net_of T x.net)) m.ports port
          (λ k x within. ap (λ (y : Option PNet). is_some y) (same k x within) ∙ s.ports_there k x within) (new-there m name range);
      ports_differ = all_pairs_push (λ (x y : PPort). x.net ≢ y.net) m.ports port s.ports_differ (port-fresh S.plain m s);
      insts_rise = joined-rise S id f d (λ x. refl) o good m.insts s.insts_rise;
      insts_below = joined-below S id f d (λ x. refl) o good m.next_inst m.insts s.insts_below;
      inst_counter = s.inst_counter;
      masters = All-map (HasMaster N T) (joined S id f d (λ x. refl) o good) m.insts (λ k x within.
          let y : PInst = get_or m.insts k x in
          let keeps : All (KeepsConn m T) y.conns = λ j z inside. keeps_wide m T (net-wide m name range) (get_or y.conns j z) in
          has-joined S id f d (λ x. refl) o good m T y (s.masters k x within) keeps (fits m T y keeps));
      cell = no_cell m T o.inner refl;
    } in
    let within : IsWithin N S.top = record {
      depth = short-below N S.plain Same below good.table.sound good.table.within.depth (λ at. (at, refl));
      size = omega (arith, size-below N S.plain Same below S.top S.top refl, good.table.within.size);
      bits = few-bits N S.top (subst (λ (table : Plain). has_too_many_bits table S.top ≡ false) (sym is) e.0);
    } in
    stays S (create_port S.plain id name dir range) good
    (subst (λ (table : Plain). KeepsGood S.plain table S.top) is
    (joined-good S id f d (λ x. refl) o good (λ x. refl) fits (λ x. refl) (λ x. refl) sound within))

-- DeletePort

-- the one item that passes is taken out
filter-out : {X : Type 0} (p : X → Bool) (xs : List X) (k : ℕ) → k < length xs → ((d : X) → p (get_or xs k d) ≡ true) → ((j : ℕ) (d : X) → j < length xs → (j ≡ k → ⊥) → p (get_or xs j d) ≡ false)
    → filter (λ x. not (p x)) xs ≡ remove xs k
filter-out p [] k within here others = absurd (omega arith)
filter-out {X} p (x ∷ xs) zero within here others =
    ap (λ b. cond (not b) (x ∷ filter (λ y. not (p y)) xs) (filter (λ y. not (p y)) xs)) (here x)
    ∙ all-kept xs (λ j d inside. others (suc j) d (omega arith) (λ same. omega arith))
  where
    all-kept : (xs : List X) → All (λ y. p y ≡ false) xs → filter (λ y. not (p y)) xs ≡ xs
    all-kept [] apart = refl
    all-kept (y ∷ ys) apart =
        ap (λ b. cond (not b) (y ∷ filter (λ z. not (p z)) ys) (filter (λ z. not (p z)) ys)) (All-head (λ z. p z ≡ false) y ys apart)
        ∙ ap (λ zs. y ∷ zs) (all-kept ys (All-tail (λ z. p z ≡ false) y ys apart))
filter-out p (x ∷ xs) (suc k) within here others =
    ap (λ b. cond (not b) (x ∷ filter (λ y. not (p y)) xs) (filter (λ y. not (p y)) xs)) (others zero x (omega arith) (λ same. omega arith))
    ∙ ap (λ ys. x ∷ ys) (filter-out p xs k (omega arith) here (λ j d inside apart. others (suc j) d (omega arith) (λ same. apart (omega arith))))

fit-remove : (m master : PModule) (ports : List PPort) (conns : List Conn) (k : ℕ) → FitPorts m master ports conns → FitPorts m master (remove ports k) (remove conns k)
fit-remove m master [] [] zero fits = tt
fit-remove m master [] [] (suc k) fits = tt
fit-remove m master [] (conn ∷ conns) k fits = absurd fits
fit-remove m master (port ∷ ports) [] k fits = absurd fits
fit-remove m master (port ∷ ports) (conn ∷ conns) zero fits = fits.1
fit-remove m master (port ∷ ports) (conn ∷ conns) (suc k) fits = (fits.0, fit-remove m master ports conns k fits.1)

all-remove : {X : Type 0} (P : X → Type 0) (xs : List X) (k : ℕ) → All P xs → All P (remove xs k)
all-remove P [] zero all = All-nil P
all-remove P [] (suc k) all = All-nil P
all-remove P (x ∷ xs) zero all = All-tail P x xs all
all-remove P (x ∷ xs) (suc k) all = All-cons P x (remove xs k) (All-head P x xs all) (all-remove P xs k (All-tail P x xs all))

-- what passes a filter passes its test
filter-passes : {X : Type 0} (p : X → Bool) (xs : List X) → All (λ x. p x ≡ true) (filter p xs)
filter-passes p [] = All-nil (λ x. p x ≡ true)
filter-passes {X} p (x ∷ xs) = by (p x) refl (filter-passes p xs)
  where
    by : (b : Bool) → p x ≡ b → All (λ y. p y ≡ true) (filter p xs) → All (λ y. p y ≡ true) (cond b (x ∷ filter p xs) (filter p xs))
    by true is rest = All-cons (λ y. p y ≡ true) x (filter p xs) is rest
    by false is rest = rest

module _ (M : Plain) (m : PModule) (s : IsSoundModule M m) (port : NetId) where
  abbrev is_it : PPort → Bool
  is_it p = p.net.0 == port.0

  -- the ports without one, by its place
  ports-without : (k : ℕ) → position is_it m.ports ≡ Some k → IsSome (port_of m port) → filter (λ p. not (is_it p)) m.ports ≡ remove m.ports k
  ports-without k at some =
      let it = some-there (port_of m port) some in
      let here : slice_get m.ports k ≡ Some it.0 = find-from_place is_it m.ports k (sym at) ∙ it.1 in
      let within : k < length m.ports = slice_get_within m.ports k it.0 here in
      let passes : is_it it.0 ≡ true = find-passes is_it m.ports it.0 it.1 in
      filter-out is_it m.ports k within (λ d. ap is_it (get_or_from_slice_get m.ports k it.0 d here) ∙ passes)
      (λ j d inside apart. false_from_ne_true (is_it (get_or m.ports j d)) (λ yes_too.
      let own : get_or m.ports k d ≡ it.0 = get_or_from_slice_get m.ports k it.0 d here in
      let make : ℕ → NetId = λ n. record { 0 = n } in
      let number_j : (get_or m.ports j d).net.0 ≡ port.0 = grind (arith, nat_tests) in
      let number_k : it.0.net.0 ≡ port.0 = grind (arith, nat_tests) in
      let same : (get_or m.ports j d).net ≡ (get_or m.ports k d).net = ap make number_j ∙ sym (ap make number_k) ∙ sym (ap (λ (p : PPort). p.net) own) in
      ⊎_elim (λ (low : j < k). s.ports_differ j k d low within same)
      (λ (from : k ≤ j). s.ports_differ k j d (omega (arith, from, apart)) inside (sym same))
      (cases_lt j k)))

  fit-without : (x : PModule) (conns : List Conn) (place : Option ℕ) → place ≡ position is_it m.ports → IsSome (port_of m port) → FitPorts x m m.ports conns
      → FitPorts x m (filter (λ p. not (is_it p)) m.ports) (without_conn place conns)
  fit-without x conns None at some fits =
      let none : None ≡ find is_it m.ports = sym (found-nowhere is_it m.ports None at) in
      absurd (false≢true (ap (λ (o : Option PPort). is_some o) none ∙ some))
  fit-without x conns (Some k) at some fits =
      subst (λ ports. FitPorts x m ports (remove conns k)) (sym (ports-without k (sym at) some)) (fit-remove x m m.ports conns k fits)

keeps-without : (x n : PModule) (place : Option ℕ) (conns : List Conn) → All (KeepsConn x n) conns → All (KeepsConn x n) (without_conn place conns)
keeps-without x n None conns all = all
keeps-without x n (Some k) conns all = all-remove (KeepsConn x n) conns k all

pub delete_port-good : (S : State) (id : ModId) (port : NetId) → IsGoodState S → Passes (delete_port_rules S id port) → IsGoodState (after S (DeletePort id port))
delete_port-good S id port good p =
    let a = common-passes S id p in
    let b = first-passes a.1 in
    let c = first-passes b.1 in
    let e = first-passes c.1 in
    let o : Opened S id = a.0 in
    let m : PModule = o.holder in
    let f : PModule → PModule = without_port port in
    let place : Option ℕ = port_place (module_of S.plain id) port in
    let d : List Conn → List Conn = without_conn place in
    let at : place ≡ position (λ (x : PPort). x.net.0 == port.0) m.ports = ap (λ (x : Option PModule). port_place x port) o.found in
    let T : PModule = target S id f d (λ x. refl) o good in
    let N : Plain = joined_table S id f d (λ x. refl) o good in
    let is : N ≡ delete_port S.plain id port = table-is S id f d (λ x. refl) o good in
    let s = holder-sound S id f (λ x. refl) o good in
    let some : IsSome (port_of m port) = let found = there (port_in S.plain id port) b.0 in sym (ap (λ (x : Option PModule). is_some (option_and_then (λ (y : PModule). port_of y port) x)) o.found) ∙ ap (λ (x : Option PPort). is_some x) found.1 in
    let free : All (Unnamed port) m.insts = unnamed port m.insts (sym (ap (λ (x : Option PModule). is_net_used x port) o.found) ∙ e.0) in
    let stays_net : PNet → Bool = λ other. not (other.id.0 == port.0) in
    let stays_port : PPort → Bool = λ other. not (other.net.0 == port.0) in
    let ports : List PPort = filter stays_port m.ports in
    let other : (net : NetId) → (net.0 ≡ port.0 → ⊥) → net_of T net ≡ net_of m net = λ net apart. other-net m port net apart in
    let same : All (λ (x : PPort). net_of T x.net ≡ net_of m x.net) ports
    = All-weaker (λ (x : PPort). stays_port x ≡ true) (λ (x : PPort). net_of T x.net ≡ net_of m x.net) (λ x apart. other x.net (λ equal. grind (arith, nat_tests))) ports (filter-passes stays_port m.ports) in
    let fits : (x n : PModule) (y : PInst) → All (KeepsConn x n) y.conns → FitPorts x m m.ports y.conns → FitPorts n T ports (d y.conns) =
    λ x n y keeps fit. fit_kept x n m T ports (d y.conns) (λ k z within. ap width_of (same k z within)) (keeps-without x n place y.conns keeps) (fit-without S.plain m s port x y.conns place at some fit)
    in
    let old : NamesApart net_name inst_name m.nets m.insts = holder-names S id f (λ x. refl) o good in
    let sound : IsSoundModule N T = record {
      names = subst (λ ns. IsDistinct bytes_eq (map net_name (filter stays_net m.nets) ++ ns)) (sym (same-names S id f d (λ x. refl) o good m.insts))
          (names.names_distinct net_name inst_name (filter stays_net m.nets) m.insts (record {
            left = AllPairs-filter (λ x y. net_name x ≢ net_name y) stays_net m.nets old.left;
            right = old.right;
            across = All-filter stays_net (λ x. All (λ (y : PInst). net_name x ≢ inst_name y) m.insts) m.nets old.across;
          }));
      nets_rise = AllPairs-filter (λ (x y : PNet). x.id.0 < y.id.0) stays_net m.nets s.nets_rise;
      nets_below = All-filter stays_net (λ (x : PNet). x.id.0 < m.next_net) m.nets s.nets_below;
      net_counter = s.net_counter;
      ranges = All-filter stays_net (λ (x : PNet). IsAllowed x.range) m.nets s.ranges;
      ports_there = λ k x within. ap (λ (y : Option PNet). is_some y) (same k x within) ∙ All-filter stays_port (λ (y : PPort). IsSome (net_of m y.net)) m.ports s.ports_there k x within;
      ports_differ = AllPairs-filter (λ (x y : PPort). x.net ≢ y.net) stays_port m.ports s.ports_differ;
      insts_rise = joined-rise S id f d (λ x. refl) o good m.insts s.insts_rise;
      insts_below = joined-below S id f d (λ x. refl) o good m.next_inst m.insts s.insts_below;
      inst_counter = s.inst_counter;
      masters = All-map (HasMaster N T) (joined S id f d (λ x. refl) o good) m.insts (λ k x within.
          let y : PInst = get_or m.insts k x in
          let keeps : All (KeepsConn m T) y.conns = λ j z inside. keeps-unnamed m T port other (get_or y.conns j z) (free k x within j z inside) in
          has-joined S id f d (λ x. refl) o good m T y (s.masters k x within) keeps (fits m T y keeps));
      cell = no_cell m T o.inner refl;
    } in
    let few : bits_of (Some T) ≤ bits_of (Some m) = rw o.inner (sum-filter (λ (x : PNet). width x.range) stays_net m.nets) in
    stays S (delete_port S.plain id port) good
    (subst (λ (table : Plain). KeepsGood S.plain table S.top) is
    (joined-good S id f d (λ x. refl) o good (λ x. refl) fits (λ x. refl) (λ x. refl) sound
    (joined-within S id f d (λ x. refl) o good (λ x. refl) fits few)))
