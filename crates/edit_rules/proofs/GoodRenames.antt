-- A lock and a new name keep a good state good.
use Rattle.std.proofs.Common.{◌≡◌, ◌≢◌, ℕ, ◌==◌, ◌<◌, ◌≤◌, Bool, true, false, cond, List, [], ◌∷◌, map, find, get_or, Option, Some, None, option_map, is_some, All, sum_by, refl, sym, ap, ◌∙◌, subst, arith}
use Rattle.std.proofs.lemmas.Bool.{or_parts}
use Rattle.std.proofs.lemmas.List.Sums.{sum_by-cons}
use Rattle.std.proofs.lemmas.List.Elements.{All-map, All-weaker}
use Rattle.emh_base.specs.declared.ids.ModId.{ModId}
use Rattle.emh_base.specs.declared.ids.NetId.{NetId}
use Rattle.emh_base.specs.declared.plain.PNet.{PNet}
use Rattle.emh_base.specs.declared.plain.PInst.{PInst}
use Rattle.emh_base.specs.declared.plain.PModule.{PModule}
use Rattle.emh_base.specs.declared.state.State.{State}
use Rattle.emh_base.specs.declared.edit.Edit.TheVariants.{RenameModule, RenameNet, Lock, Unlock}
use Rattle.flatten_rules.specs.Lookup.{net_of, width, width_of}
use Rattle.flatten_rules.specs.Limits.{bits_of}
use Rattle.flatten_rules.specs.Sound.{IsAllowed}
use Rattle.edit_rules.specs.Readers.{is_name_in}
use Rattle.edit_rules.specs.Modules.{with_lock, lock_rules, unlock_rules, rename_module, rename_module_rules}
use Rattle.edit_rules.specs.Nets.{rename_net, rename_net_rules, renamed}
use Rattle.edit_rules.specs.Good.{IsGoodState}
use Rattle.edit_rules.specs.Apply.{after}
use Rattle.edit_rules.proofs.OrderLemmas.{rises-map}
use Rattle.edit_rules.proofs.GoodTables.{SamePorts, below-own, find-map}
use Rattle.edit_rules.proofs.GoodChecks.{Passes, first-passes, Opened, opened, common-passes}
use Rattle.edit_rules.proofs.GoodStates.{KeepsGood, stays}
use Rattle.edit_rules.proofs.GoodNames as names
use Rattle.edit_rules.proofs.GoodNames.{NamesApart, Apart}
use Rattle.edit_rules.proofs.GoodKept.{dressed_sound, insts_kept, no_cell, holder-sound, holder-names, names-stay, within-changed, masters-changed, changed-good}

-- Lock and Unlock

lock-table : (S : State) (id : ModId) (locked : Bool) (o : Opened S id) → IsGoodState S → KeepsGood S.plain (with_lock S.plain id locked) S.top
lock-table S id locked o good =
    let f : PModule → PModule = λ m. record m { locked = locked } in
    let s = holder-sound S id f (λ m. refl) o good in
    let ports : SamePorts o.holder (f o.holder) = record { ports = refl; widths = λ k d within. refl } in
    changed-good S id f (λ m. refl) o good (λ m. refl) (names-stay S id f (λ m. refl) o good (λ m. refl)) ports
    (dressed_sound S.plain (with_lock S.plain id locked) o.holder o.holder.id o.holder.name locked (masters-changed S id f (λ m. refl) o good ports) o.inner s)
    (within-changed S id f (λ m. refl) o good (below-own o.holder.insts) (omega arith))

pub lock-good : (S : State) (id : ModId) → IsGoodState S → Passes (lock_rules S id) → IsGoodState (after S (Lock id))
lock-good S id good p =
    let a = first-passes p in
    let b = first-passes a.1 in
    stays S (with_lock S.plain id true) good (lock-table S id true (opened S id a.0 b.0) good)

pub unlock-good : (S : State) (id : ModId) → IsGoodState S → Passes (unlock_rules S id) → IsGoodState (after S (Unlock id))
unlock-good S id good p =
    let a = first-passes p in
    let b = first-passes a.1 in
    stays S (with_lock S.plain id false) good (lock-table S id false (opened S id a.0 b.0) good)

-- RenameModule

pub rename_module-good : (S : State) (id : ModId) (name : List ℕ) → IsGoodState S → Passes (rename_module_rules S id name) → IsGoodState (after S (RenameModule id name))
rename_module-good S id name good p =
    let a = common-passes S id p in
    let b = first-passes a.1 in
    let o : Opened S id = a.0 in
    let f : PModule → PModule = λ m. record m { name = name } in
    let s = holder-sound S id f (λ m. refl) o good in
    let ports : SamePorts o.holder (f o.holder) = record { ports = refl; widths = λ k d within. refl } in
    let called : PModule → List ℕ = λ m. m.name in
    let others : All (λ (m : PModule). m.name ≢ name) S.plain.modules = names.free called name S.plain.modules b.0 in
    let apart : Apart called S.plain.modules = names.apart called S.plain.modules good.table.sound.names in
    stays S (rename_module S.plain id name) good
    (changed-good S id f (λ m. refl) o good (λ m. refl)
    (names.distinct called _ (names.apart-renamed called (λ (m : PModule). m.id.0) id.0 name f (λ m. refl) S.plain.modules good.table.sound.rise others apart)) ports
    (dressed_sound S.plain (rename_module S.plain id name) o.holder o.holder.id name o.holder.locked (masters-changed S id f (λ m. refl) o good ports) o.inner s)
    (within-changed S id f (λ m. refl) o good (below-own o.holder.insts) (omega arith)))

-- RenameNet

module _ (id : NetId) (name : List ℕ) where
  -- a net that may get the name
  abbrev called : PNet → PNet
  called net = cond (net.id.0 == id.0) (renamed name net) net

  keeps : {Y : Type 0} (part : PNet → Y) (b : Bool) (net : PNet) → part (renamed name net) ≡ part net → part (cond b (renamed name net) net) ≡ part net
  keeps part true net same = same
  keeps part false net same = refl

  net_called : (m : PModule) (net : NetId) → find (λ (x : PNet). x.id.0 == net.0) (map called m.nets) ≡ option_map called (net_of m net)
  net_called m net = find-map (λ (x : PNet). x.id.0 == net.0) called (λ x. ap (λ (at : NetId). at.0 == net.0) (keeps (λ y. y.id) (x.id.0 == id.0) x refl)) m.nets

  wide_called : (o : Option PNet) → width_of (option_map called o) ≡ width_of o
  wide_called None = refl
  wide_called (Some net) = ap width (keeps (λ y. y.range) (net.id.0 == id.0) net refl)

  some_called : (o : Option PNet) → is_some (option_map called o) ≡ is_some o
  some_called None = refl
  some_called (Some net) = refl

  bits_called : (nets : List PNet) → sum_by (λ (net : PNet). width net.range) (map called nets) ≡ sum_by (λ (net : PNet). width net.range) nets
  bits_called [] = refl
  bits_called (net ∷ nets) =
      omega (
        arith,
        sum_by-cons (λ (x : PNet). width x.range) (called net) (map called nets),
        sum_by-cons (λ (x : PNet). width x.range) net nets,
        ap width (keeps (λ y. y.range) (net.id.0 == id.0) net refl),
        bits_called nets,
      )

pub rename_net-good : (S : State) (id : ModId) (net : NetId) (name : List ℕ) → IsGoodState S → Passes (rename_net_rules S id net name) → IsGoodState (after S (RenameNet id net name))
rename_net-good S id net name good p =
    let a = common-passes S id p in
    let b = first-passes a.1 in
    let c = first-passes b.1 in
    let o : Opened S id = a.0 in
    let h : PNet → PNet = called net name in
    let f : PModule → PModule = λ m. record m { nets = map h m.nets } in
    let s = holder-sound S id f (λ m. refl) o good in
    let nets : List PNet = o.holder.nets in
    let insts : List PInst = o.holder.insts in
    let taken = or_parts _ _ (sym (ap (λ m. is_name_in m name) o.found) ∙ c.0) in
    let net_name : PNet → List ℕ = λ x. x.name in
    let inst_name : PInst → List ℕ = λ x. x.name in
    let new_nets : All (λ (x : PNet). x.name ≢ name) nets = names.free net_name name nets taken.0 in
    let new_insts : All (λ (x : PInst). x.name ≢ name) insts = names.free inst_name name insts taken.1 in
    let old : NamesApart net_name inst_name nets insts = holder-names S id f (λ m. refl) o good in
    let wide : (at : NetId) → width_of (net_of (f o.holder) at) ≡ width_of (net_of o.holder at) = λ at. ap width_of (net_called net name o.holder at) ∙ wide_called net name (net_of o.holder at) in
    let ports : SamePorts o.holder (f o.holder) = record { ports = refl; widths = λ k d within. wide (get_or o.holder.ports k d).net } in
    let few : bits_of (Some (f o.holder)) ≤ bits_of (Some o.holder) = rw o.inner (omega (arith, bits_called net name nets)) in
    stays S (rename_net S.plain id net name) good
    (changed-good S id f (λ m. refl) o good (λ m. refl) (names-stay S id f (λ m. refl) o good (λ m. refl)) ports
    (record {
      names = names.names_distinct net_name inst_name (map h nets) insts (record {
        left = names.apart-renamed net_name (λ (x : PNet). x.id.0) net.0 name (renamed name) (λ x. refl) nets s.nets_rise new_nets old.left;
        right = old.right;
        across = All-map (λ x. All (λ (y : PInst). net_name x ≢ inst_name y) insts) h nets (λ k d within. λ j e inside.
            names.renamed-differs net_name (λ (x : PNet). x.id.0) net.0 name (renamed name) (λ x. refl) (get_or nets k d) (inst_name (get_or insts j e))
            (λ same. new_insts j e inside (sym same)) (old.across k d within j e inside));
      });
      nets_rise = rises-map (λ (x : PNet). x.id.0) h (λ x. keeps net name (λ y. y.id.0) (x.id.0 == net.0) x refl) nets s.nets_rise;
      nets_below = All-map (λ (x : PNet). x.id.0 < o.holder.next_net) h nets
          (All-weaker (λ (x : PNet). x.id.0 < o.holder.next_net) (λ (x : PNet). (h x).id.0 < o.holder.next_net) (λ x low. rw (keeps net name (λ y. y.id.0) (x.id.0 == net.0) x refl) low) nets s.nets_below);
      net_counter = s.net_counter;
      ranges = All-map (λ (x : PNet). IsAllowed x.range) h nets
          (All-weaker (λ (x : PNet). IsAllowed x.range) (λ (x : PNet). IsAllowed (h x).range) (λ x allowed. subst IsAllowed (sym (keeps net name (λ y. y.range) (x.id.0 == net.0) x refl)) allowed) nets s.ranges);
      ports_there = λ k d within. ap (λ (x : Option PNet). is_some x) (net_called net name o.holder (get_or o.holder.ports k d).net) ∙ some_called net name (net_of o.holder (get_or o.holder.ports k d).net) ∙ s.ports_there k d within;
      ports_differ = s.ports_differ;
      insts_rise = s.insts_rise;
      insts_below = s.insts_below;
      inst_counter = s.inst_counter;
      masters = insts_kept S.plain (rename_net S.plain id net name) o.holder (f o.holder) (masters-changed S id f (λ m. refl) o good ports) (λ at. omega (arith, wide at)) insts s.masters;
      cell = no_cell o.holder (f o.holder) o.inner refl;
    })
    (within-changed S id f (λ m. refl) o good (below-own insts) few))
