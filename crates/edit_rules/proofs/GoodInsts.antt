-- Edits of one instance, and one instance less, keep a good state good.
use Rattle.std.proofs.Common.{◌≡◌, ◌≢◌, ℕ, zero, suc, ◌==◌, ◌<◌, nat_le, Bool, true, false, cond, not, inl, inr, List, [], ◌∷◌, ◌++◌, map, filter, position, length, get_or, slice_get, slice_set, Option, Some, None, option_and_then, is_some, MatchOption, All, AllPairs, bytes_eq, refl, sym, ap, ◌∙◌, subst, arith}
use Rattle.std.specs.List.{IsDistinct, flat_map}
use Rattle.std.proofs.lemmas.Bool.{or_parts}
use Rattle.std.proofs.lemmas.Bool.Decides.{nat_tests}
use Rattle.std.proofs.lemmas.List.Elements.{All-map, All-weaker, All-filter, All-nil, All-cons}
use Rattle.std.proofs.lemmas.List.Kept.{AllPairs-filter}
use Rattle.emh_base.specs.declared.ids.ModId.{ModId}
use Rattle.emh_base.specs.declared.ids.NetId.{NetId}
use Rattle.emh_base.specs.declared.ids.InstId.{InstId}
use Rattle.emh_base.specs.declared.plain.Src.{Src}
use Rattle.emh_base.specs.declared.plain.Src.TheVariants.{Tie0, Tie1, Bit}
use Rattle.emh_base.specs.declared.plain.Conn.{Conn}
use Rattle.emh_base.specs.declared.plain.Conn.TheVariants.{Open, Bits}
use Rattle.emh_base.specs.declared.plain.PNet.{PNet}
use Rattle.emh_base.specs.declared.plain.PPort.{PPort}
use Rattle.emh_base.specs.declared.plain.PInst.{PInst}
use Rattle.emh_base.specs.declared.plain.PModule.{PModule}
use Rattle.emh_base.specs.declared.plain.Plain.{Plain}
use Rattle.emh_base.specs.declared.state.State.{State}
use Rattle.emh_base.specs.declared.rule.Refusal.{Refusal}
use Rattle.emh_base.specs.declared.edit.Edit.TheVariants.{RenameInst, Connect, Disconnect, DeleteInst}
use Rattle.flatten_rules.specs.Lookup.{module_of, net_of, port_of, inst_of, width_of}
use Rattle.flatten_rules.specs.Limits.{IsWithin}
use Rattle.flatten_rules.specs.Sound.{IsSource, FitsPort, FitPorts, HasMaster}
use Rattle.flatten_rules.proofs.Places.{find-from_place}
use Rattle.flatten_rules.proofs.Walks.{find-own, find-passes, same-some}
use Rattle.flatten_rules.specs.Check.{first_broken}
use Rattle.edit_rules.specs.Check.{Check}
use Rattle.edit_rules.specs.Readers.{is_name_in, inst_in, net_in, master_of, master_id, port_place}
use Rattle.flatten_rules.specs.Changes.{with_insts, with_inst, with_conns}
use Rattle.edit_rules.specs.Insts.{rename_inst, rename_inst_rules, delete_inst, delete_inst_rules, connect, connect_rules, disconnect, disconnect_rules, with_conn, set_conn, source_rules, width_rules}
use Rattle.edit_rules.specs.Good.{IsGoodState}
use Rattle.edit_rules.specs.Apply.{after}
use Rattle.edit_rules.proofs.OrderLemmas.{rises-map}
use Rattle.edit_rules.proofs.GoodWalks.{AreBelow}
use Rattle.edit_rules.proofs.GoodTables.{chosen_by, SamePorts, KeepsMasters, Same, master_kept, map-through}
use Rattle.edit_rules.proofs.GoodChecks.{Passes, first-passes, Opened, common-passes, there, not-false}
use Rattle.edit_rules.proofs.GoodStates.{KeepsGood, stays}
use Rattle.edit_rules.proofs.GoodNames as names
use Rattle.edit_rules.proofs.GoodNames.{net_name, inst_name, NamesApart, Apart}
use Rattle.edit_rules.proofs.GoodKept.{insts_kept, keeps_wide, no_cell, holder-sound, holder-names, names-stay, within-changed, masters-changed, changed-good}

abbrev number : PInst → ℕ
number inst = inst.id.0

-- the instance of an id is changed, and stays at its place and of its master
module _ (i : InstId) (c : PInst → PInst) where
  abbrev pub at_inst : PInst → PInst
  at_inst inst = cond (inst.id.0 == i.0) (c inst) inst

  pub inst-keeps : {Y : Type 0} (part : PInst → Y) → ((x : PInst) → part (c x) ≡ part x) → (x : PInst) → part (at_inst x) ≡ part x
  inst-keeps part same x = chosen_by (λ y. part y ≡ part x) (x.id.0 == i.0) (c x) x (λ here. same x) refl

  pub each-inst : (P : PInst → PInst → Type 0) (m : PModule) (x : PInst) → AllPairs (λ (a b : PInst). a.id.0 < b.id.0) m.insts → inst_of m i ≡ Some x → P (c x) x
      → All (λ (y : PInst). P y y) m.insts → All (λ (y : PInst). P (at_inst y) y) m.insts
  each-inst P m x rise found here rest k d within =
      let y : PInst = get_or m.insts k d in
      chosen_by (λ z. P z y) (y.id.0 == i.0) (c y) y
      (λ at.
      let same_number : y.id.0 ≡ i.0 = grind (arith, nat_tests) in
      let make : ℕ → InstId = λ n. record { 0 = n } in
      let same_id : y.id ≡ i = ap make same_number in
      let own : inst_of m y.id ≡ Some y = find-own number m.insts rise k d within in
      let same : x ≡ y = same-some (inst_of m i) x y found (ap (inst_of m) (sym same_id) ∙ own) in
      subst (λ z. P (c z) z) same here)
      (rest k d within)

pub below-map : (h : PInst → PInst) → ((x : PInst) → (h x).master ≡ x.master) → (xs : List PInst) → AreBelow Same (map h xs) xs
below-map h same [] = tt
below-map h same (x ∷ xs) = inl (same x, below-map h same xs)

module _ (S : State) (id : ModId) (i : InstId) (c : PInst → PInst) (ids : (x : PInst) → (c x).id ≡ x.id) where
  abbrev f : PModule → PModule
  f m = with_insts (at_inst i c) m

  -- walks stay where masters do
  pub inst-within : (o : Opened S id) → IsGoodState S → ((x : PInst) → (c x).master ≡ x.master) → IsWithin (with_inst S.plain id i c) S.top
  inst-within o good masters = within-changed S id f (λ m. refl) o good (below-map (at_inst i c) (inst-keeps i c (λ y. y.master) masters) o.holder.insts) (omega arith)

  pub inst-table : (o : Opened S id) (x : PInst) → IsGoodState S → inst_of o.holder i ≡ Some x
      → IsDistinct bytes_eq (map net_name o.holder.nets ++ map inst_name (map (at_inst i c) o.holder.insts))
      → (HasMaster S.plain o.holder x → HasMaster S.plain o.holder (c x)) → IsWithin (with_inst S.plain id i c) S.top → KeepsGood S.plain (with_inst S.plain id i c) S.top
  inst-table o x good found distinct again within =
      let N : Plain = with_inst S.plain id i c in
      let s = holder-sound S id f (λ m. refl) o good in
      let ports : SamePorts o.holder (f o.holder) = record { ports = refl; widths = λ k d within. refl } in
      let kept : KeepsMasters S.plain N = masters-changed S id f (λ m. refl) o good ports in
      let insts : List PInst = o.holder.insts in
      let has : (y : PInst) → HasMaster S.plain o.holder y → HasMaster N (f o.holder) y =
      λ y h. master_kept S.plain N o.holder (f o.holder) y (kept y.master) (λ k d within. keeps_wide o.holder (f o.holder) (λ net. omega arith) (get_or y.conns k d)) h
      in
      let Has : PInst → PInst → Type 0 = λ new old. HasMaster S.plain o.holder old → HasMaster S.plain o.holder new in
      let each : All (λ (y : PInst). Has (at_inst i c y) y) insts = each-inst i c Has o.holder x s.insts_rise found again (λ k d within. λ h. h) in
      changed-good S id f (λ m. refl) o good (λ m. refl) (names-stay S id f (λ m. refl) o good (λ m. refl)) ports
      (record {
        names = distinct;
        nets_rise = s.nets_rise;
        nets_below = s.nets_below;
        net_counter = s.net_counter;
        ranges = s.ranges;
        ports_there = s.ports_there;
        ports_differ = s.ports_differ;
        insts_rise = rises-map number (at_inst i c) (inst-keeps i c number (λ y. ap (λ (at : InstId). at.0) (ids y))) insts s.insts_rise;
        insts_below = All-map (λ (y : PInst). y.id.0 < o.holder.next_inst) (at_inst i c) insts
            (All-weaker (λ (y : PInst). y.id.0 < o.holder.next_inst) (λ (y : PInst). (at_inst i c y).id.0 < o.holder.next_inst)
            (λ y low. rw (inst-keeps i c number (λ z. ap (λ (at : InstId). at.0) (ids z)) y) low) insts s.insts_below);
        inst_counter = s.inst_counter;
        masters = All-map (HasMaster N (f o.holder)) (at_inst i c) insts (λ k d within. has (at_inst i c (get_or insts k d)) (each k d within (s.masters k d within)));
        cell = no_cell o.holder (f o.holder) o.inner refl;
      })
      within

-- the instance of an edit
pub inst-there : (S : State) (id : ModId) (i : InstId) (o : Opened S id) → not (is_some (inst_in S.plain id i)) ≡ false → (x : PInst) × (inst_of o.holder i ≡ Some x) × (inst_in S.plain id i ≡ Some x)
inst-there S id i o e =
    let x = there (inst_in S.plain id i) e in
    (x.0, sym (ap (option_and_then (λ (m : PModule). inst_of m i)) o.found) ∙ x.1, x.1)

-- RenameInst

pub rename_inst-good : (S : State) (id : ModId) (i : InstId) (name : List ℕ) → IsGoodState S → Passes (rename_inst_rules S id i name) → IsGoodState (after S (RenameInst id i name))
rename_inst-good S id i name good p =
    let a = common-passes S id p in
    let b = first-passes a.1 in
    let c = first-passes b.1 in
    let o : Opened S id = a.0 in
    let x = inst-there S id i o b.0 in
    let new : PInst → PInst = λ y. record y { name = name } in
    let nets : List PNet = o.holder.nets in
    let insts : List PInst = o.holder.insts in
    let s = holder-sound S id (λ m. m) (λ m. refl) o good in
    let taken = or_parts _ _ (sym (ap (λ m. is_name_in m name) o.found) ∙ c.0) in
    let new_nets : All (λ (y : PNet). y.name ≢ name) nets = names.free net_name name nets taken.0 in
    let new_insts : All (λ (y : PInst). y.name ≢ name) insts = names.free inst_name name insts taken.1 in
    let old : NamesApart net_name inst_name nets insts = holder-names S id (λ m. m) (λ m. refl) o good in
    stays S (rename_inst S.plain id i name) good
    (inst-table S id i new (λ y. refl) o x.0 good x.1
    (names.names_distinct net_name inst_name nets (map (at_inst i new) insts) (record {
      left = old.left;
      right = names.apart-renamed inst_name number i.0 name new (λ y. refl) insts s.insts_rise new_insts old.right;
      across = λ k d within. All-map (λ (y : PInst). net_name (get_or nets k d) ≢ inst_name y) (at_inst i new) insts (λ j e inside. λ same.
          names.renamed-differs inst_name number i.0 name new (λ y. refl) (get_or insts j e) (net_name (get_or nets k d))
          (λ equal. new_nets k d within (sym equal)) (λ equal. old.across k d within j e inside (sym equal)) (sym same));
    }))
    (λ h. h) (inst-within S id i new (λ y. refl) o good (λ y. refl)))

-- Connect and Disconnect

-- one connection of an instance is another that fits its port
fit-set : (m master : PModule) (ports : List PPort) (conns : List Conn) (k : ℕ) (conn : Conn) → FitPorts m master ports conns
    → ((port : PPort) → slice_get ports k ≡ Some port → FitsPort m master port conn) → FitPorts m master ports (slice_set conns k conn)
fit-set m master [] [] k conn fits here = tt
fit-set m master [] (c ∷ conns) k conn fits here = absurd fits
fit-set m master (port ∷ ports) [] k conn fits here = absurd fits
fit-set m master (port ∷ ports) (c ∷ conns) zero conn fits here = (here port refl, fits.1)
fit-set m master (port ∷ ports) (c ∷ conns) (suc k) conn fits here = (fits.0, fit-set m master ports conns k conn fits.1 here)

-- the connection at the place of a port
conn-set : (m master : PModule) (port : NetId) (conns : List Conn) (conn : Conn) (place : Option ℕ) → place ≡ position (λ (p : PPort). p.net.0 == port.0) master.ports → FitPorts m master master.ports conns
    → ((p : PPort) → port_of master port ≡ Some p → FitsPort m master p conn) → FitPorts m master master.ports (set_conn place conn conns)
conn-set m master port conns conn None at fits here = fits
conn-set m master port conns conn (Some k) at fits here =
    fit-set m master master.ports conns k conn fits (λ p is. here p (sym (find-from_place (λ (p : PPort). p.net.0 == port.0) master.ports k at) ∙ is))

-- an instance with that connection is connected as its master's ports ask
has-conn : (M : Plain) (m : PModule) (x : PInst) (port : NetId) (conn : Conn) → HasMaster M m x
    → ((master : PModule) (p : PPort) → module_of M x.master ≡ Some master → port_of master port ≡ Some p → FitsPort m master p conn)
    → HasMaster M m (with_conns (set_conn (port_place (module_of M x.master) port) conn) x)
has-conn M m x port conn has here = by_cases (module_of M x.master) (λ master. here master) has
  where
    by_cases : (o : Option PModule) → ((master : PModule) (p : PPort) → o ≡ Some master → port_of master port ≡ Some p → FitsPort m master p conn)
        → MatchOption o ⊥ (λ master. FitPorts m master master.ports x.conns) → MatchOption o ⊥ (λ master. FitPorts m master master.ports (set_conn (port_place o port) conn x.conns))
    by_cases None here h = h
    by_cases (Some master) here h = conn-set m master port x.conns conn (port_place (Some master) port) refl h (λ p is. here master p refl is)

conn-table : (S : State) (id : ModId) (i : InstId) (port : NetId) (conn : Conn) (o : Opened S id) (x : PInst) → IsGoodState S → inst_of o.holder i ≡ Some x → inst_in S.plain id i ≡ Some x
    → ((master : PModule) (p : PPort) → module_of S.plain x.master ≡ Some master → port_of master port ≡ Some p → FitsPort o.holder master p conn)
    → KeepsGood S.plain (with_conn S.plain id i port conn) S.top
conn-table S id i port conn o x good found is here =
    let place : Option ℕ = port_place (master_of S.plain (inst_in S.plain id i)) port in
    let at : place ≡ port_place (module_of S.plain x.master) port = ap (λ (y : Option PInst). port_place (master_of S.plain y) port) is in
    let new : PInst → PInst = with_conns (set_conn place conn) in
    let s = holder-sound S id (λ m. m) (λ m. refl) o good in
    let same : map inst_name (map (at_inst i new) o.holder.insts) ≡ map inst_name o.holder.insts = map-through inst_name (at_inst i new) (inst-keeps i new inst_name (λ y. refl)) o.holder.insts in
    inst-table S id i new (λ y. refl) o x good found
    (subst (λ ns. IsDistinct bytes_eq (map net_name o.holder.nets ++ ns)) (sym same) s.names)
    (λ has.
    let Has : Option ℕ → Type 0 = λ at. HasMaster S.plain o.holder (with_conns (set_conn at conn) x) in
    subst Has (sym at) (has-conn S.plain o.holder x port conn has here))
    (inst-within S id i new (λ y. refl) o good (λ y. refl))

pub disconnect-good : (S : State) (id : ModId) (i : InstId) (port : NetId) → IsGoodState S → Passes (disconnect_rules S id i port) → IsGoodState (after S (Disconnect id i port))
disconnect-good S id i port good p =
    let a = common-passes S id p in
    let b = first-passes a.1 in
    let x = inst-there S id i a.0 b.0 in
    stays S (disconnect S.plain id i port) good (conn-table S id i port Open a.0 x.0 good x.1 x.2 (λ master p found is. tt))

either : (b : Bool) (r : Refusal) (rest all second : Option Refusal) → (all ≡ None → (rest ≡ None) × (second ≡ None)) → cond b (Some r) all ≡ None → (cond b (Some r) rest ≡ None) × (second ≡ None)
either true r rest all second more e = let never : Some r ≡ None = e in absurd (cc)
either false r rest all second more e = more e

-- rules of two lists
both-none : (xs ys : List Check) → first_broken (xs ++ ys) ≡ None → (first_broken xs ≡ None) × (first_broken ys ≡ None)
both-none [] ys e = (refl, e)
both-none (x ∷ xs) ys e = either x.0 x.1 (first_broken xs) (first_broken (xs ++ ys)) (first_broken ys) (both-none xs ys) e

pub both-pass : (xs ys : List Check) → Passes (xs ++ ys) → Passes xs × Passes ys
both-pass xs ys p = let e = both-none xs ys p.none in (record { none = e.0 }, record { none = e.1 })

each-passes : {X : Type 0} (rules : X → List Check) (xs : List X) → Passes (flat_map rules xs) → All (λ x. Passes (rules x)) xs
each-passes rules [] p = All-nil (λ x. Passes (rules x))
each-passes rules (x ∷ xs) p =
    let parts = both-pass (rules x) (flat_map rules xs) p in
    All-cons (λ y. Passes (rules y)) x xs parts.0 (each-passes rules xs parts.1)

-- a source that no rule refuses
source-there : (S : State) (id : ModId) (o : Opened S id) (src : Src) → Passes (source_rules S id src) → IsSource o.holder src
source-there S id o Tie0 p = tt
source-there S id o Tie1 p = tt
source-there S id o (Bit net offset) p =
    let a = first-passes p in
    let b = first-passes a.1 in
    let at : net_in S.plain id net ≡ net_of o.holder net = ap (option_and_then (λ (m : PModule). net_of m net)) o.found in
    let within : nat_le (width_of (net_of o.holder net)) offset ≡ false = sym (ap (λ (n : Option PNet). nat_le (width_of n) offset) at) ∙ b.0 in
    grind (arith, nat_tests)

pub connect-good : (S : State) (id : ModId) (i : InstId) (port : NetId) (bits : List Src) → IsGoodState S → Passes (connect_rules S id i port bits) → IsGoodState (after S (Connect id i port bits))
connect-good S id i port bits good p =
    let a = common-passes S id p in
    let b = first-passes a.1 in
    let c = first-passes b.1 in
    let d = both-pass (flat_map (source_rules S id) bits) (width_rules S id i port (length bits)) c.1 in
    let w = first-passes d.1 in
    let o : Opened S id = a.0 in
    let x = inst-there S id i o b.0 in
    let sources : All (IsSource o.holder) bits = All-weaker (λ src. Passes (source_rules S id src)) (IsSource o.holder) (λ src q. source-there S id o src q) bits (each-passes (source_rules S id) bits d.0) in
    let many : length bits ≡ width_of (net_in S.plain (master_id (inst_in S.plain id i)) port) = let equal = not-false _ w.0 in grind (arith, nat_tests) in
    stays S (connect S.plain id i port bits) good
    (conn-table S id i port (Bits bits) o x.0 good x.1 x.2
    (λ master q found is.
    let number_is : q.net.0 ≡ port.0 = let passes = find-passes (λ (y : PPort). y.net.0 == port.0) master.ports q is in grind (arith, nat_tests) in
    let make : ℕ → NetId = λ n. record { 0 = n } in
    let net_is : q.net ≡ port = ap make number_is in
    let at : net_in S.plain (master_id (inst_in S.plain id i)) port ≡ net_of master port
    = ap (λ (y : Option PInst). net_in S.plain (master_id y) port) x.2 ∙ ap (option_and_then (λ (m : PModule). net_of m port)) found in
    (many ∙ ap width_of at ∙ ap (λ (n : NetId). width_of (net_of master n)) (sym net_is), sources)))

-- DeleteInst

below-more : (xs ys : List PInst) (y : PInst) → AreBelow Same xs ys → AreBelow Same xs (y ∷ ys)
below-more [] ys y below = tt
below-more (x ∷ xs) ys y below = inr below

below-filter : (p : PInst → Bool) (xs : List PInst) → AreBelow Same (filter p xs) xs
below-filter p [] = tt
below-filter p (x ∷ xs) = kept (p x) (below-filter p xs)
  where
    kept : (b : Bool) → AreBelow Same (filter p xs) xs → AreBelow Same (cond b (x ∷ filter p xs) (filter p xs)) (x ∷ xs)
    kept true below = inl (refl, below)
    kept false below = below-more (filter p xs) xs x below

pub delete_inst-good : (S : State) (id : ModId) (i : InstId) → IsGoodState S → Passes (delete_inst_rules S id i) → IsGoodState (after S (DeleteInst id i))
delete_inst-good S id i good p =
    let a = common-passes S id p in
    let o : Opened S id = a.0 in
    let test : PInst → Bool = λ other. not (other.id.0 == i.0) in
    let f : PModule → PModule = λ m. record m { insts = filter test m.insts } in
    let s = holder-sound S id f (λ m. refl) o good in
    let nets : List PNet = o.holder.nets in
    let insts : List PInst = o.holder.insts in
    let ports : SamePorts o.holder (f o.holder) = record { ports = refl; widths = λ k d within. refl } in
    let old : NamesApart net_name inst_name nets insts = holder-names S id f (λ m. refl) o good in
    let N : Plain = delete_inst S.plain id i in
    stays S N good
    (changed-good S id f (λ m. refl) o good (λ m. refl) (names-stay S id f (λ m. refl) o good (λ m. refl)) ports
    (record {
      names = names.names_distinct net_name inst_name nets (filter test insts) (record {
        left = old.left;
        right = AllPairs-filter (λ a b. inst_name a ≢ inst_name b) test insts old.right;
        across = λ k d within. All-filter test (λ (y : PInst). net_name (get_or nets k d) ≢ inst_name y) insts (old.across k d within);
      });
      nets_rise = s.nets_rise;
      nets_below = s.nets_below;
      net_counter = s.net_counter;
      ranges = s.ranges;
      ports_there = s.ports_there;
      ports_differ = s.ports_differ;
      insts_rise = AllPairs-filter (λ (a b : PInst). a.id.0 < b.id.0) test insts s.insts_rise;
      insts_below = All-filter test (λ (y : PInst). y.id.0 < o.holder.next_inst) insts s.insts_below;
      inst_counter = s.inst_counter;
      masters = All-filter test (HasMaster N (f o.holder)) insts (insts_kept S.plain N o.holder (f o.holder) (masters-changed S id f (λ m. refl) o good ports) (λ net. omega arith) insts s.masters);
      cell = no_cell o.holder (f o.holder) o.inner refl;
    })
    (within-changed S id f (λ m. refl) o good (below-filter test insts) (omega arith)))
