-- A copy of a master, for one of its instances, keeps a good state good.
use Rattle.std.proofs.Common.{◌≡◌, ◌≢◌, ℕ, ◌+◌, ◌==◌, ◌<◌, ◌≤◌, ◌⊎◌, inl, inr, ⊎_elim, true, false, cond, List, [], ◌∷◌, ◌++◌, map, find, get_or, Option, Some, None, option_map, MatchOption, All, bytes_eq, refl, sym, ap, ◌∙◌, subst, arith}
use Rattle.std.specs.List.{IsDistinct}
use Rattle.std.specs.Option.{option_or}
use Rattle.std.proofs.lemmas.Bool.{true≢false, cases_eq, false_from_ne_true}
use Rattle.std.proofs.lemmas.Bool.Decides.{nat_tests}
use Rattle.std.proofs.lemmas.List.{map-append}
use Rattle.std.proofs.lemmas.List.Elements.{All-map, All-weaker, All-push}
use Rattle.std.proofs.lemmas.List.Folds.{find-append}
use Rattle.std.proofs.lemmas.List.Quantifiers.{all_pairs_push}
use Rattle.emh_base.specs.declared.ids.ModId.{ModId}
use Rattle.emh_base.specs.declared.ids.InstId.{InstId}
use Rattle.emh_base.specs.declared.plain.PInst.{PInst}
use Rattle.emh_base.specs.declared.plain.PModule.{PModule}
use Rattle.emh_base.specs.declared.plain.Plain.{Plain}
use Rattle.emh_base.specs.declared.state.State.{State}
use Rattle.emh_base.specs.declared.edit.Edit.TheVariants.{Uniquify}
use Rattle.flatten_rules.specs.Lookup.{module_of, inst_of, insts_of}
use Rattle.flatten_rules.specs.Domains.{is_leaf}
use Rattle.flatten_rules.specs.Design.{IsInner}
use Rattle.flatten_rules.specs.Limits.{bits_of, IsWithin}
use Rattle.flatten_rules.specs.Sound.{FitPorts, HasMaster, IsSoundModule, IsCounter}
use Rattle.flatten_rules.proofs.Sound.{All-find, sound-module, master-there}
use Rattle.flatten_rules.proofs.Walks.{id-of_found, found-own, find-own, find-passes, some-there}
use Rattle.edit_rules.specs.Readers.{inst_in, master_of, master_id}
use Rattle.flatten_rules.specs.Changes.{with_insts}
use Rattle.flatten_rules.proofs.LimitTests.{at_most}
use Rattle.edit_rules.specs.Insts.{with_master, with_copy, uniquify, uniquify_rules}
use Rattle.edit_rules.specs.Good.{IsGoodState}
use Rattle.edit_rules.specs.Apply.{after}
use Rattle.edit_rules.proofs.OrderLemmas.{rises-map}
use Rattle.edit_rules.proofs.GoodWalks.{AreBelow, IsBelow, within-below, no_cycle-short}
use Rattle.edit_rules.proofs.GoodTables.{SamePorts, same_ports-own, KeepsMasters, fit_kept, master_kept, module_kept, IsOwn, lookup-mapped, map-through, changed, changed-keeps, each-changed}
use Rattle.edit_rules.proofs.GoodChecks.{Passes, first-passes, Opened, common-passes}
use Rattle.edit_rules.proofs.GoodStates.{KeepsGood, stays}
use Rattle.edit_rules.proofs.GoodNames as names
use Rattle.edit_rules.proofs.GoodNames.{net_name, inst_name, Apart}
use Rattle.edit_rules.proofs.GoodKept.{dressed_sound, keeps_wide, no_cell, names-stay}
use Rattle.edit_rules.proofs.GoodInsts.{at_inst, inst-keeps, each-inst, inst-there}
use Rattle.edit_rules.proofs.GoodModules.{kept-last}
use Rattle.edit_rules.proofs.GoodMasters.{below-each, below-alone}

abbrev called : PModule → List ℕ
called m = m.name

-- no module has an id that isn't below the counter
not-there : (n next : ℕ) (xs : List PModule) → next ≤ n → All (λ (m : PModule). m.id.0 < next) xs → find (λ (m : PModule). m.id.0 == n) xs ≡ None
not-there n next xs high below = by_cases (find (λ (m : PModule). m.id.0 == n) xs) refl
  where
    by_cases : (o : Option PModule) → find (λ (m : PModule). m.id.0 == n) xs ≡ o → o ≡ None
    by_cases None e = refl
    by_cases (Some m) e =
        let low : m.id.0 < next = All-find (λ (x : PModule). x.id.0 < next) (λ (x : PModule). x.id.0 == n) xs m below e in
        let is : (m.id.0 == n) ≡ true = find-passes (λ (x : PModule). x.id.0 == n) xs m e in
        let same : m.id.0 ≡ n = grind (arith, nat_tests) in
        absurd (omega (arith, low, same, high))

-- The table with a copy of module a under the next id, which an instance of the module of the edit gets as its master.
module _ (S : State) (id : ModId) (i : InstId) (name : List ℕ) (o : Opened S id) (good : IsGoodState S) (x : PInst) (found : inst_of o.holder i ≡ Some x) (a : PModule) (is_master : module_of S.plain x.master ≡ Some a) (inner : a.leaf ≡ false) where
  abbrev M : Plain
  M = S.plain

  abbrev new : ModId
  new = record { 0 = M.next_module }

  abbrev copy : PModule
  copy = record a { id = new; name = name; locked = false }

  abbrev change : PInst → PInst
  change y = record y { master = new }

  abbrev f : PModule → PModule
  f = with_insts (at_inst i change)

  abbrev N : Plain
  N = with_copy (with_master M id i new) (Some a) name

  ids : (m : PModule) → (changed id f m).id ≡ m.id
  ids m = changed-keeps (λ y. y.id) id f (λ y. refl) m

  there-below : (at : ModId) (m : PModule) → module_of M at ≡ Some m → at.0 < M.next_module
  there-below at m e =
      let low : m.id.0 < M.next_module = All-find (λ (y : PModule). y.id.0 < M.next_module) (λ (y : PModule). y.id.0 == at.0) M.modules m good.table.sound.below e in
      let same : m.id.0 ≡ at.0 = ap (λ (y : ModId). y.0) (id-of_found M at m e) in
      omega (arith, low, same)

  kept-in : (at : ModId) (m : PModule) → module_of M at ≡ Some m → module_of N at ≡ Some (changed id f m)
  kept-in at m e = kept-last (with_master M id i new) copy at (changed id f m) (lookup-mapped M (changed id f) ids at ∙ ap (option_map (changed id f)) e)

  rest : (at : ModId) → module_of M at ≡ None → module_of N at ≡ find (λ (y : PModule). y.id.0 == at.0) (copy ∷ [])
  rest at e =
      find-append (λ (y : PModule). y.id.0 == at.0) (with_master M id i new).modules (copy ∷ [])
      ∙ ap (λ (y : Option PModule). option_or y (find (λ (z : PModule). z.id.0 == at.0) (copy ∷ []))) (lookup-mapped M (changed id f) ids at ∙ ap (option_map (changed id f)) e)

  copy-in : module_of N new ≡ Some copy
  copy-in =
      let same : (M.next_module == M.next_module) ≡ true = grind (arith, nat_tests) in
      rest new (not-there M.next_module M.next_module M.modules (omega arith) good.table.sound.below) ∙ ap (λ b. cond b (Some copy) None) same

  absent-in : (at : ModId) → (at.0 ≡ new.0 → ⊥) → module_of M at ≡ None → module_of N at ≡ None
  absent-in at apart e =
      let other : (M.next_module == at.0) ≡ false = false_from_ne_true (M.next_module == at.0) (λ is. apart (grind (arith, nat_tests))) in
      rest at e ∙ ap (λ b. cond b (Some copy) None) other

  masters : KeepsMasters M N
  masters at m e =
      (changed id f m, kept-in at m e, each-changed (λ v w. SamePorts w v) M id f o.holder o.found (record { ports = refl; widths = λ k d within. refl }) same_ports-own m (found-own M at m e))

  -- Walks go down as before, through the copy as through the master.
  abbrev Below : ModId → ModId → Type 0
  Below v w = ((v ≡ w) × (v.0 ≡ new.0 → ⊥)) ⊎ ((v ≡ new) × (w ≡ x.master))

  old-master : (m : PModule) → IsOwn M m → All (λ (y : PInst). Below y.master y.master) m.insts
  old-master m own k d within =
      let y : PInst = get_or m.insts k d in
      let has : HasMaster M m y = (sound-module M m.id m good.table.sound own).masters k d within in
      let z = some-there (module_of M y.master) (master-there M m y has) in
      let low : y.master.0 < M.next_module = there-below y.master z.0 z.1 in
      inl (refl, λ same. omega (arith, low, same))

  holder_own : IsOwn M o.holder
  holder_own = found-own M id o.holder o.found

  holder_sound : IsSoundModule M o.holder
  holder_sound = sound-module M id o.holder good.table.sound o.found

  each-below : (m : PModule) → IsOwn M m → AreBelow Below (changed id f m).insts m.insts
  each-below m own =
      each-changed (λ v w. IsOwn M w → AreBelow Below v.insts w.insts) M id f o.holder o.found
      (λ own. below-each Below (at_inst i change) o.holder.insts
      (each-inst i change (λ v w. Below v.master w.master) o.holder x holder_sound.insts_rise found (inr (refl, refl)) (old-master o.holder holder_own)))
      (λ y own. below-alone Below y.insts (old-master y own))
      m own own

  -- what holds of each module before and after, and of the copy and its master, holds wherever a module stands below another
  each-pair : (P : Option PModule → Option PModule → Type 0) → P None None → ((m : PModule) → IsOwn M m → P (Some (changed id f m)) (Some m)) → P (Some copy) (Some a) → (v w : ModId) → Below v w → P (module_of N v) (module_of M w)
  each-pair P none some last v w under = ⊎_elim
      (λ (same : (v ≡ w) × (v.0 ≡ new.0 → ⊥)). subst (λ at. P (module_of N v) (module_of M at)) same.0 (by_cases (module_of M v) refl same.1))
      (λ (other : (v ≡ new) × (w ≡ x.master)).
      subst (λ at. P (module_of N at) (module_of M w)) (sym other.0)
      (subst (λ y. P y (module_of M w)) (sym copy-in) (subst (λ at. P (Some copy) (module_of M at)) (sym other.1) (subst (P (Some copy)) (sym is_master) last))))
      under
    where
      by_cases : (y : Option PModule) → module_of M v ≡ y → (v.0 ≡ new.0 → ⊥) → P (module_of N v) (module_of M v)
      by_cases None e apart = subst (λ y. P y (module_of M v)) (sym (absent-in v apart e)) (subst (P None) (sym e) none)
      by_cases (Some m) e apart = subst (λ y. P y (module_of M v)) (sym (kept-in v m e)) (subst (P (Some (changed id f m))) (sym e) (some m (found-own M v m e)))

  isbelow : IsBelow N M Below
  isbelow = each-pair (λ v w. AreBelow Below (insts_of v) (insts_of w)) tt each-below (below-alone Below a.insts (old-master a (found-own M x.master a is_master)))

  few : (v w : ModId) → Below v w → bits_of (module_of N v) ≤ bits_of (module_of M w)
  few = each-pair (λ v w. bits_of v ≤ bits_of w) (omega arith) (each-changed (λ v w. bits_of (Some v) ≤ bits_of (Some w)) M id f o.holder o.found (omega arith) (λ y. omega arith)) (omega arith)

  top-there : (z : PModule) × (module_of M S.top ≡ Some z)
  top-there = by_cases (module_of M S.top) refl good.table.inner
    where
      by_cases : (y : Option PModule) → module_of M S.top ≡ y → IsInner y → (z : PModule) × (module_of M S.top ≡ Some z)
      by_cases None e inner = absurd inner
      by_cases (Some z) e inner = (z, e)

  each-under : (v : ModId) → (w : ModId) × Below v w
  each-under v = ⊎_elim (λ (same : v.0 ≡ new.0). let make : ℕ → ModId = λ n. record { 0 = n } in (x.master, inr (ap make same, refl))) (λ (apart : v.0 ≡ new.0 → ⊥). (v, inl (refl, apart))) (cases_eq v.0 new.0)

  within : IsWithin N S.top
  within = within-below N M Below isbelow S.top good.table.sound good.table.within each-under (inl (refl, λ same. let low = there-below S.top top-there.0 top-there.1 in omega (arith, low, same))) few

  -- Each module is sound.

  -- the instance fits the copy as it fits the master
  fits-copy : HasMaster M o.holder x → HasMaster N (f o.holder) (change x)
  fits-copy has =
      let Old : Option PModule → Type 0 = λ y. MatchOption y ⊥ (λ z. FitPorts o.holder z z.ports x.conns) in
      let New : Option PModule → Type 0 = λ y. MatchOption y ⊥ (λ z. FitPorts (f o.holder) z z.ports x.conns) in
      subst New (sym copy-in)
      (fit_kept o.holder (f o.holder) a copy a.ports x.conns (λ k d within. refl) (λ k d within. keeps_wide o.holder (f o.holder) (λ net. omega arith) (get_or x.conns k d)) (subst Old is_master has))

  holder-stays : IsSoundModule N (f o.holder)
  holder-stays =
      let s = holder_sound in
      let insts : List PInst = o.holder.insts in
      let same_names : map inst_name (map (at_inst i change) insts) ≡ map inst_name insts = map-through inst_name (at_inst i change) (inst-keeps i change inst_name (λ y. refl)) insts in
      let each : All (λ (y : PInst). HasMaster M o.holder y → HasMaster N (f o.holder) (at_inst i change y)) insts =
      each-inst i change (λ v w. HasMaster M o.holder w → HasMaster N (f o.holder) v) o.holder x s.insts_rise found fits-copy
      (λ k d within. λ has.
      let y : PInst = get_or insts k d in
      master_kept M N o.holder (f o.holder) y (masters y.master) (λ j c inside. keeps_wide o.holder (f o.holder) (λ net. omega arith) (get_or y.conns j c)) has)
      in
      record {
        names = subst (λ ns. IsDistinct bytes_eq (map net_name o.holder.nets ++ ns)) (sym same_names) s.names;
        nets_rise = s.nets_rise;
        nets_below = s.nets_below;
        net_counter = s.net_counter;
        ranges = s.ranges;
        ports_there = s.ports_there;
        ports_differ = s.ports_differ;
        insts_rise = rises-map (λ (y : PInst). y.id.0) (at_inst i change) (inst-keeps i change (λ y. y.id.0) (λ y. refl)) insts s.insts_rise;
        insts_below = All-map (λ (y : PInst). y.id.0 < o.holder.next_inst) (at_inst i change) insts
            (All-weaker (λ (y : PInst). y.id.0 < o.holder.next_inst) (λ (y : PInst). (at_inst i change y).id.0 < o.holder.next_inst)
            (λ y low. rw (inst-keeps i change (λ z. z.id.0) (λ z. refl) y) low) insts s.insts_below);
        inst_counter = s.inst_counter;
        masters = All-map (HasMaster N (f o.holder)) (at_inst i change) insts (λ k d within. each k d within (s.masters k d within));
        cell = no_cell o.holder (f o.holder) o.inner refl;
      }

  copy-sound : IsSoundModule N copy
  copy-sound = dressed_sound M N a new name false masters inner (sound-module M x.master a good.table.sound is_master)

  each-sound : (m : PModule) → IsOwn M m → IsSoundModule M m → IsSoundModule N (changed id f m)
  each-sound =
      each-changed (λ v w. IsSoundModule M w → IsSoundModule N v) M id f o.holder o.found (λ s. holder-stays) (λ m s. module_kept M N m masters s)

  names-copy : All (λ (m : PModule). m.name ≢ name) M.modules → IsDistinct bytes_eq (map called (map (changed id f) M.modules ++ copy ∷ []))
  names-copy free =
      let same : (m : PModule) → (changed id f m).name ≡ m.name = changed-keeps called id f (λ y. refl) in
      let old : Apart called (map (changed id f) M.modules) = names.apart called (map (changed id f) M.modules) (names-stay S id f (λ y. refl) o good (λ y. refl)) in
      let others : All (λ (m : PModule). m.name ≢ name) (map (changed id f) M.modules) =
      All-map (λ (m : PModule). m.name ≢ name) (changed id f) M.modules (All-weaker (λ (m : PModule). m.name ≢ name) (λ (m : PModule). (changed id f m).name ≢ name) (λ m apart. λ equal. apart (sym (same m) ∙ equal)) M.modules free) in
      names.distinct called (map (changed id f) M.modules ++ copy ∷ []) (names.apart-push called (map (changed id f) M.modules) copy old others)

  pub copy-good : All (λ (m : PModule). m.name ≢ name) M.modules → IsCounter (M.next_module + 1) → KeepsGood M N S.top
  copy-good free room =
      let Low : PModule → Type 0 = λ m. m.id.0 < M.next_module in
      let low : All Low (map (changed id f) M.modules) = All-map Low (changed id f) M.modules (All-weaker Low (λ m. Low (changed id f m)) (λ m is. rw (ids m) is) M.modules good.table.sound.below) in
      let Kept : PModule → PModule → Type 0 = λ v w. w.leaf ≡ true → v ≡ w in
      record {
        table = record {
          sound = record {
            names = names-copy free;
            rise = all_pairs_push (λ (v w : PModule). v.id.0 < w.id.0) (map (changed id f) M.modules) copy
                (rises-map (λ (m : PModule). m.id.0) (changed id f) (λ m. ap (λ (at : ModId). at.0) (ids m)) M.modules good.table.sound.rise) low;
            below = All-push (λ (m : PModule). m.id.0 < M.next_module + 1) (map (changed id f) M.modules) copy
                (All-weaker Low (λ (m : PModule). m.id.0 < M.next_module + 1) (λ m is. omega (arith, is)) (map (changed id f) M.modules) low) (omega arith);
            counter = room;
            modules = All-push (IsSoundModule N) (map (changed id f) M.modules) copy
                (All-map (IsSoundModule N) (changed id f) M.modules (λ k d within. each-sound (get_or M.modules k d) (find-own (λ (m : PModule). m.id.0) M.modules good.table.sound.rise k d within) (good.table.sound.modules k d within)))
                copy-sound;
            no_cycle = no_cycle-short N within.depth;
          };
          inner = subst IsInner (sym (kept-in S.top top-there.0 top-there.1)) (changed-keeps (λ y. y.leaf) id f (λ y. refl) top-there.0 ∙ subst IsInner top-there.1 good.table.inner);
          within = within;
        };
        cells = λ at m e leaf. kept-in at m e ∙ ap Some (each-changed Kept M id f o.holder o.found (λ is. absurd (true≢false (sym is ∙ o.inner))) (λ y is. refl) m (found-own M at m e) leaf);
      }

other-number : (m n : ℕ) → n < m → (m == n) ≡ false
other-number m n low = grind (arith, nat_tests)

-- the copy comes first: an instance of a module that is there is none of the copy's
copy-first : (M : Plain) (id : ModId) (i : InstId) (a : PModule) (name : List ℕ) → (M.next_module == id.0) ≡ false
    → with_master (with_copy M (Some a) name) id i (record { 0 = M.next_module }) ≡ with_copy (with_master M id i (record { 0 = M.next_module })) (Some a) name
copy-first M id i a name apart =
    let new : ModId = record { 0 = M.next_module } in
    let copy : PModule = record a { id = new; name = name; locked = false } in
    let g : PModule → PModule = changed id (with_insts (at_inst i (λ (y : PInst). record y { master = new }))) in
    let to : List PModule → Plain = λ modules. record { modules = modules; next_module = M.next_module + 1 } in
    let same : g copy ≡ copy = ap (λ b. cond b (with_insts (at_inst i (λ (y : PInst). record y { master = new })) copy) copy) apart in
    ap to (map-append g M.modules (copy ∷ []) ∙ ap (λ last. map g M.modules ++ last ∷ []) same)

pub uniquify-good : (S : State) (id : ModId) (i : InstId) (name : List ℕ) → IsGoodState S → Passes (uniquify_rules S id i name) → IsGoodState (after S (Uniquify id i name))
uniquify-good S id i name good p =
    let a = common-passes S id p in
    let b = first-passes a.1 in
    let c = first-passes b.1 in
    let d = first-passes c.1 in
    let e = first-passes d.1 in
    let M : Plain = S.plain in
    let o : Opened S id = a.0 in
    let x = inst-there S id i o b.0 in
    let s = sound-module M id o.holder good.table.sound o.found in
    let has : HasMaster M o.holder x.0 = All-find (HasMaster M o.holder) (λ (y : PInst). y.id.0 == i.0) o.holder.insts x.0 s.masters x.1 in
    let z = some-there (module_of M x.0.master) (master-there M o.holder x.0 has) in
    let master : master_of M (inst_in M id i) ≡ Some z.0 = ap (master_of M) x.2 ∙ z.1 in
    let inner : z.0.leaf ≡ false = sym (ap is_leaf (ap (λ (y : Option PInst). module_of M (master_id y)) x.2 ∙ z.1)) ∙ c.0 in
    let new : ModId = record { 0 = M.next_module } in
    let low : o.holder.id.0 < M.next_module = All-find (λ (y : PModule). y.id.0 < M.next_module) (λ (y : PModule). y.id.0 == id.0) M.modules o.holder good.table.sound.below o.found in
    let own : o.holder.id.0 ≡ id.0 = ap (λ (at : ModId). at.0) (id-of_found M id o.holder o.found) in
    let apart : (M.next_module == id.0) ≡ false = other-number M.next_module id.0 (omega (arith, low, own)) in
    let is : uniquify M id i name ≡ with_copy (with_master M id i new) (Some z.0) name =
    ap (λ (y : Option PModule). with_master (with_copy M y name) id i new) master ∙ copy-first M id i z.0 name apart
    in
    stays S (uniquify M id i name) good
    (subst (λ table. KeepsGood M table S.top) (sym is) (copy-good S id i name o good x.0 x.1 z.0 z.1 inner (names.free called name M.modules e.0) (at_most 4294967295 (M.next_module + 1) (first-passes e.1).0)))
