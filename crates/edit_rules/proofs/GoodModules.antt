-- A module more and a module less keep a good state good.
use Rattle.std.proofs.Common.{◌≡◌, ◌≢◌, ℕ, ◌+◌, ◌==◌, ◌<◌, ◌≤◌, Bool, true, false, cond, not, ⊎_elim, List, [], ◌∷◌, ◌++◌, filter, find, get_or, sum_by, count_by, Option, Some, None, All, refl, sym, ap, ◌∙◌, subst, arith}
use Rattle.std.specs.List.{IsDistinct}
use Rattle.std.specs.Option.{option_or}
use Rattle.std.proofs.lemmas.Bool.{true≢false, cases_eq}
use Rattle.std.proofs.lemmas.Bool.Decides.{nat_tests}
use Rattle.std.proofs.lemmas.List.Elements.{All-weaker, All-filter, All-push, All-nil, All-cons}
use Rattle.std.proofs.lemmas.List.Folds.{find-append}
use Rattle.std.proofs.lemmas.List.Kept.{AllPairs-filter}
use Rattle.std.proofs.lemmas.List.Quantifiers.{all_pairs_push}
use Rattle.std.proofs.lemmas.List.Sums.{sum_by-cons}
use Rattle.emh_base.specs.declared.ids.ModId.{ModId}
use Rattle.emh_base.specs.declared.plain.PInst.{PInst}
use Rattle.emh_base.specs.declared.plain.PModule.{PModule}
use Rattle.emh_base.specs.declared.plain.Plain.{Plain}
use Rattle.emh_base.specs.declared.state.State.{State}
use Rattle.emh_base.specs.declared.edit.Edit.TheVariants.{CreateModule, DeleteModule}
use Rattle.flatten_rules.specs.Lookup.{module_of, insts_of}
use Rattle.flatten_rules.specs.Limits.{bits_of, IsWithin}
use Rattle.flatten_rules.specs.Design.{IsInner}
use Rattle.flatten_rules.specs.Sound.{HasMaster, IsSoundModule, IsSound}
use Rattle.edit_rules.specs.Readers.{users}
use Rattle.flatten_rules.specs.Changes.{with_last_module}
use Rattle.flatten_rules.proofs.LimitTests.{at_most}
use Rattle.edit_rules.specs.Modules.{create_module, create_module_rules, empty_module, delete_module, delete_module_rules}
use Rattle.edit_rules.specs.Good.{IsGoodState}
use Rattle.edit_rules.specs.Apply.{after}
use Rattle.edit_rules.proofs.GoodWalks.{AreBelow, IsBelow, within-below, no_cycle-short}
use Rattle.edit_rules.proofs.GoodTables.{same_ports-own, keeps-own, KeepsMasters, Same, below-own, master_kept, module_kept}
use Rattle.edit_rules.proofs.GoodChecks.{Passes, first-passes, Opened, opened}
use Rattle.edit_rules.proofs.GoodStates.{stays}
use Rattle.edit_rules.proofs.GoodNames as names
use Rattle.edit_rules.proofs.GoodNames.{Apart}
use Rattle.edit_rules.proofs.GoodNets.{find-filter}

abbrev called : PModule → List ℕ
called m = m.name

-- CreateModule

-- a module that is there is there with a module more
pub kept-last : (M : Plain) (new : PModule) (id : ModId) (m : PModule) → module_of M id ≡ Some m → module_of (with_last_module M new) id ≡ Some m
kept-last M new id m found =
    find-append (λ (x : PModule). x.id.0 == id.0) M.modules (new ∷ []) ∙ ap (λ (o : Option PModule). option_or o (find (λ (x : PModule). x.id.0 == id.0) (new ∷ []))) found

-- and where none is there is at most the new one
pub only-last : (P : Option PModule → Type 0) (M : Plain) (new : PModule) (id : ModId) → module_of M id ≡ None → P None → P (Some new) → P (module_of (with_last_module M new) id)
only-last P M new id none absent here =
    let at : module_of (with_last_module M new) id ≡ find (λ (x : PModule). x.id.0 == id.0) (new ∷ [])
    = find-append (λ (x : PModule). x.id.0 == id.0) M.modules (new ∷ []) ∙ ap (λ (o : Option PModule). option_or o (find (λ (x : PModule). x.id.0 == id.0) (new ∷ []))) none in
    subst P (sym at) (either (new.id.0 == id.0))
  where
    either : (b : Bool) → P (cond b (Some new) None)
    either true = here
    either false = absent

empty-sound : (N : Plain) (id : ℕ) (name : List ℕ) → IsSoundModule N (empty_module id name)
unfolding IsDistinct
empty-sound N id name = record {
  names = tt;
  nets_rise = λ i j d lt within. absurd (omega arith);
  nets_below = λ k d within. absurd (omega arith);
  net_counter = omega arith;
  ranges = λ k d within. absurd (omega arith);
  ports_there = λ k d within. absurd (omega arith);
  ports_differ = λ i j d lt within. absurd (omega arith);
  insts_rise = λ i j d lt within. absurd (omega arith);
  insts_below = λ k d within. absurd (omega arith);
  inst_counter = omega arith;
  masters = λ k d within. absurd (omega arith);
  cell = λ leaf. absurd (true≢false (sym leaf));
}

pub create_module-good : (S : State) (name : List ℕ) → IsGoodState S → Passes (create_module_rules S name) → IsGoodState (after S (CreateModule name))
create_module-good S name good p =
    let a = first-passes p in
    let room = (first-passes a.1).0 in
    let M : Plain = S.plain in
    let new : PModule = empty_module M.next_module name in
    let N : Plain = create_module M name in
    let sound : IsSound M = good.table.sound in
    let others : All (λ (m : PModule). m.name ≢ name) M.modules = names.free called name M.modules a.0 in
    let apart : Apart called M.modules = names.apart called M.modules sound.names in
    let masters : KeepsMasters M N = λ id m found. (m, kept-last M new id m found, same_ports-own m) in
    let Below : Option PModule → Option PModule → Type 0 = λ n m. AreBelow Same (insts_of n) (insts_of m) in
    let each : (P : Option PModule → Option PModule → Type 0) → P None None → P (Some new) None → ((m : PModule) → P (Some m) (Some m)) → (id : ModId) → P (module_of N id) (module_of M id) =
    λ P absent last same id. by_cases M new P absent last same id (module_of M id) refl
    in
    let below : IsBelow N M Same = λ x y same. subst (λ id. AreBelow Same (insts_of (module_of N x)) (insts_of (module_of M id))) same (each Below tt tt (λ m. below-own m.insts) x) in
    let few : (id : ModId) → bits_of (module_of N id) ≤ bits_of (module_of M id) = each (λ n m. bits_of n ≤ bits_of m) (omega arith) (omega arith) (λ m. omega arith) in
    let within : IsWithin N S.top = within-below N M Same below S.top sound good.table.within (λ id. (id, refl)) refl (λ x y same. subst (λ id. bits_of (module_of N x) ≤ bits_of (module_of M id)) same (few x)) in
    stays S N good
    (record {
      table = record {
        sound = record {
          names = names.distinct called (M.modules ++ new ∷ []) (names.apart-push called M.modules new apart others);
          rise = all_pairs_push (λ (x y : PModule). x.id.0 < y.id.0) M.modules new sound.rise sound.below;
          below = All-push (λ (m : PModule). m.id.0 < M.next_module + 1) M.modules new
              (All-weaker (λ (m : PModule). m.id.0 < M.next_module) (λ (m : PModule). m.id.0 < M.next_module + 1) (λ m low. omega (arith, low)) M.modules sound.below) (omega arith);
          counter = at_most 4294967295 (M.next_module + 1) room;
          modules = All-push (IsSoundModule N) M.modules new (All-weaker (IsSoundModule M) (IsSoundModule N) (λ m s. module_kept M N m masters s) M.modules sound.modules) (empty-sound N M.next_module name);
          no_cycle = no_cycle-short N within.depth;
        };
        inner = each (λ n m. IsInner m → IsInner n) (λ never. never) (λ never. absurd never) (λ m is. is) S.top good.table.inner;
        within = within;
      };
      cells = λ id m found leaf. kept-last M new id m found;
    })
  where
    by_cases : (M : Plain) (new : PModule) (P : Option PModule → Option PModule → Type 0) → P None None → P (Some new) None → ((m : PModule) → P (Some m) (Some m)) → (id : ModId) (o : Option PModule) → module_of M id ≡ o
        → P (module_of (with_last_module M new) id) (module_of M id)
    by_cases M new P absent last same id None e = subst (P (module_of (with_last_module M new) id)) (sym e) (only-last (λ o. P o None) M new id e absent last)
    by_cases M new P absent last same id (Some m) e =
        subst (P (module_of (with_last_module M new) id)) (sym e) (subst (λ o. P o (Some m)) (sym (kept-last M new id m e)) (same m))

-- DeleteModule

find-out : {X : Type 0} (p q : X → Bool) → ((x : X) → p x ≡ true → q x ≡ false) → (xs : List X) → find p (filter q xs) ≡ None
find-out {X} p q out [] = refl
find-out {X} p q out (x ∷ xs) = by (q x) (p x) refl (out x) (find-out p q out xs)
  where
    by : (b c : Bool) → p x ≡ c → (c ≡ true → b ≡ false) → find p (filter q xs) ≡ None → find p (cond b (x ∷ filter q xs) (filter q xs)) ≡ None
    by true true is out none = absurd (true≢false (out refl))
    by true false is out none = ap (λ c. cond c (Some x) (find p (filter q xs))) is ∙ none
    by false c is out none = none

sum-none : {X : Type 0} (n : X → ℕ) (xs : List X) → sum_by n xs ≡ 0 → All (λ x. n x ≡ 0) xs
sum-none n [] e = All-nil (λ x. n x ≡ 0)
sum-none n (x ∷ xs) e = All-cons (λ y. n y ≡ 0) x xs (omega (arith, sum_by-cons n x xs, e)) (sum-none n xs (omega (arith, sum_by-cons n x xs, e)))

count-none : {X : Type 0} (p : X → Bool) (xs : List X) → count_by p xs ≡ 0 → All (λ x. p x ≡ false) xs
count-none p [] e = All-nil (λ x. p x ≡ false)
count-none p (x ∷ xs) e =
    let parts = by (p x) (count_by p xs) (sym (sum_by-cons (λ y. cond (p y) 1 0) x xs) ∙ e) in
    All-cons (λ y. p y ≡ false) x xs parts.0 (count-none p xs parts.1)
  where
    by : (b : Bool) (n : ℕ) → cond b 1 0 + n ≡ 0 → (b ≡ false) × (n ≡ 0)
    by true n e = absurd (omega (arith, e))
    by false n e = (refl, omega (arith, e))

-- a module without users is no instance's master
no_users : (M : Plain) (id : ModId) → users M id ≡ 0 → All (λ (m : PModule). All (λ (inst : PInst). (inst.master.0 == id.0) ≡ false) m.insts) M.modules
unfolding users
no_users M id none = λ k d within.
    count-none (λ (inst : PInst). inst.master.0 == id.0) (get_or M.modules k d).insts
    (sum-none (λ (m : PModule). count_by (λ (inst : PInst). inst.master.0 == id.0) m.insts) M.modules none k d within)

pub delete_module-good : (S : State) (id : ModId) → IsGoodState S → Passes (delete_module_rules S id) → IsGoodState (after S (DeleteModule id))
delete_module-good S id good p =
    let a = first-passes p in
    let b = first-passes a.1 in
    let c = first-passes b.1 in
    let d = first-passes c.1 in
    let e = first-passes d.1 in
    let o : Opened S id = opened S id a.0 b.0 in
    let M : Plain = S.plain in
    let N : Plain = delete_module M id in
    let sound : IsSound M = good.table.sound in
    let stays_there : PModule → Bool = λ other. not (other.id.0 == id.0) in
    let none : users M id ≡ 0 = let few = e.0 in grind (arith, nat_tests) in
    let unused = no_users M id none in
    let same : (at : ModId) → (at.0 ≡ id.0 → ⊥) → module_of N at ≡ module_of M at
    = λ at apart. find-filter (λ (x : PModule). x.id.0 == at.0) stays_there (λ x here. grind (arith, nat_tests)) M.modules in
    let gone : (at : ModId) → at.0 ≡ id.0 → module_of N at ≡ None
    = λ at equal. find-out (λ (x : PModule). x.id.0 == at.0) stays_there (λ x here. grind (arith, nat_tests)) M.modules in
    let each : (P : Option PModule → Option PModule → Type 0) → ((m : Option PModule) → P None m) → ((m : Option PModule) → P m m) → (at : ModId) → P (module_of N at) (module_of M at) =
    λ P absent own at. ⊎_elim (λ (equal : at.0 ≡ id.0). subst (λ n. P n (module_of M at)) (sym (gone at equal)) (absent (module_of M at)))
    (λ (apart : at.0 ≡ id.0 → ⊥). subst (λ n. P n (module_of M at)) (sym (same at apart)) (own (module_of M at))) (cases_eq at.0 id.0)
    in
    let below : IsBelow N M Same = λ x y equal. subst (λ at. AreBelow Same (insts_of (module_of N x)) (insts_of (module_of M at))) equal
    (each (λ n m. AreBelow Same (insts_of n) (insts_of m)) (λ m. tt) (λ m. below-own (insts_of m)) x) in
    let few : (at : ModId) → bits_of (module_of N at) ≤ bits_of (module_of M at) = each (λ n m. bits_of n ≤ bits_of m) (λ m. omega arith) (λ m. omega arith) in
    let within : IsWithin N S.top = within-below N M Same below S.top sound good.table.within (λ at. (at, refl)) refl (λ x y equal. subst (λ at. bits_of (module_of N x) ≤ bits_of (module_of M at)) equal (few x)) in
    let not_top : S.top.0 ≡ id.0 → ⊥ = λ equal. let apart = c.0 in grind (arith, nat_tests) in
    let masters : (m : PModule) → All (λ (inst : PInst). (inst.master.0 == id.0) ≡ false) m.insts → All (HasMaster M m) m.insts → All (HasMaster N m) m.insts =
    λ m free has k f inside.
    let inst : PInst = get_or m.insts k f in
    let apart : inst.master.0 ≡ id.0 → ⊥ = λ equal. let is = free k f inside in grind (arith, nat_tests) in
    master_kept M N m m inst (λ master found. (master, same inst.master apart ∙ found, same_ports-own master)) (λ j g low. keeps-own m (get_or inst.conns j g)) (has k f inside)
    in
    stays S N good
    (record {
      table = record {
        sound = record {
          names = names.distinct called (filter stays_there M.modules) (AllPairs-filter (λ x y. called x ≢ called y) stays_there M.modules (names.apart called M.modules sound.names));
          rise = AllPairs-filter (λ (x y : PModule). x.id.0 < y.id.0) stays_there M.modules sound.rise;
          below = All-filter stays_there (λ (m : PModule). m.id.0 < M.next_module) M.modules sound.below;
          counter = sound.counter;
          modules = All-filter stays_there (IsSoundModule N) M.modules (λ k f inside.
              let s = sound.modules k f inside in
              record {
                names = s.names;
                nets_rise = s.nets_rise;
                nets_below = s.nets_below;
                net_counter = s.net_counter;
                ranges = s.ranges;
                ports_there = s.ports_there;
                ports_differ = s.ports_differ;
                insts_rise = s.insts_rise;
                insts_below = s.insts_below;
                inst_counter = s.inst_counter;
                masters = masters (get_or M.modules k f) (unused k f inside) s.masters;
                cell = s.cell;
              });
          no_cycle = no_cycle-short N within.depth;
        };
        inner = subst IsInner (sym (same S.top not_top)) good.table.inner;
        within = within;
      };
      cells = λ at m found leaf.
          same at (λ equal.
          let make : ℕ → ModId = λ n. record { 0 = n } in
          let same_id : at ≡ id = ap make equal in
          let other : Some m ≡ Some o.holder = sym found ∙ ap (module_of M) same_id ∙ o.found in
          let one : m ≡ o.holder = cc in
          true≢false (sym leaf ∙ ap (λ (x : PModule). x.leaf) one ∙ o.inner)) ∙ found;
    })
