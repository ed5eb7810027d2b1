-- After an edit of a sound table, modules and instances stand in rising order of their ids.
use Rattle.std.proofs.Common.{◌≡◌, ℕ, ◌<◌, ◌==◌, not, Bool, true, false, cond, List, [], ◌∷◌, ◌++◌, length, get_or, map, All, AllPairs, Option, Some, None, refl, ap, arith}
use Rattle.std.proofs.lemmas.List.{get_or-map, length-map}
use Rattle.std.proofs.lemmas.List.Elements.{All-map, All-filter, All-push, All-weaker}
use Rattle.std.proofs.lemmas.List.Kept.{AllPairs-filter}
use Rattle.std.proofs.lemmas.List.Quantifiers.{all_pairs_push}
use Rattle.emh_base.specs.declared.ids.ModId.{ModId}
use Rattle.emh_base.specs.declared.ids.InstId.{InstId}
use Rattle.emh_base.specs.declared.plain.PInst.{PInst}
use Rattle.emh_base.specs.declared.plain.PModule.{PModule}
use Rattle.emh_base.specs.declared.plain.Plain.{Plain}
use Rattle.emh_base.specs.declared.edit.Edit.{Edit}
use Rattle.emh_base.specs.declared.edit.Edit.TheVariants.{CreateModule, DeleteModule, CreateNet, DeleteNet, CreatePort, DeletePort, CreateInst, DeleteInst, Connect, Disconnect, RenameModule, RenameNet, RenameInst, Resize, Uniquify, Place, Unplace, Lock, Unlock, SetFanout, SetGrid}
use Rattle.flatten_rules.specs.Sound.{IsSound, IsSoundModule}
use Rattle.flatten_rules.proofs.Sound.{sound-module}
use Rattle.edit_rules.specs.inside.Order.{InOrder}
use Rattle.edit_rules.specs.Readers.{master_of, inst_in}
use Rattle.flatten_rules.specs.Changes.{with_module, with_inst, with_insts, with_last_module, at_instances}
use Rattle.edit_rules.specs.Insts.{with_copy}
use Rattle.edit_rules.specs.Apply.{table_after}

abbrev pub Rising : {X : Type 0} → (X → ℕ) → List X → Type 0
Rising n xs = AllPairs (λ a b. n a < n b) xs

abbrev module_number : PModule → ℕ
module_number m = m.id.0

abbrev inst_number : PInst → ℕ
inst_number i = i.id.0

abbrev Insts : PModule → Type 0
Insts m = Rising inst_number m.insts

-- items that keep their numbers keep their order
pub rises-map : {X : Type 0} (n : X → ℕ) (g : X → X) → ((x : X) → n (g x) ≡ n x) → (xs : List X) → Rising n xs → Rising n (map g xs)
rises-map n g same xs rise i j e before within =
    let short : j < length xs = omega (arith, within, length-map xs g) in
    let low : i < length xs = omega arith in
    omega (arith, rise i j e before short, same (get_or xs i e), same (get_or xs j e), ap n (get_or-map g xs i e e low), ap n (get_or-map g xs j e e short))

rises-push : {X : Type 0} (n : X → ℕ) (xs : List X) (x : X) → Rising n xs → All (λ y. n y < n x) xs → Rising n (xs ++ x ∷ [])
rises-push n xs x rise below = all_pairs_push (λ a b. n a < n b) xs x rise (λ k d within. below k d within)

-- a choice keeps what both sides have
chosen : {X : Type 0} (n : X → ℕ) (b : Bool) (y x : X) → n y ≡ n x → n (cond b y x) ≡ n x
chosen n true y x same = same
chosen n false y x same = refl

chosen-has : {X : Type 0} (P : X → Type 0) (b : Bool) (y x : X) → P y → P x → P (cond b y x)
chosen-has P true y x here there = here
chosen-has P false y x here there = there

sound-order : (M : Plain) → IsSound M → InOrder M
sound-order M sound = record {
  modules = sound.rise;
  insts = All-weaker (IsSoundModule M) Insts (λ m sound_m. sound_m.insts_rise) M.modules sound.modules;
}

module_changed : (M : Plain) (id : ModId) (f : PModule → PModule) → IsSound M → ((m : PModule) → module_number (f m) ≡ module_number m) → ((m : PModule) → IsSoundModule M m → Insts (f m)) → InOrder (with_module M id f)
module_changed M id f sound same order =
    let g : PModule → PModule = λ m. cond (m.id.0 == id.0) (f m) m in
    record {
      modules = rises-map module_number g (λ m. chosen module_number (m.id.0 == id.0) (f m) m (same m)) M.modules sound.rise;
      insts = All-map Insts g M.modules
          (All-weaker (IsSoundModule M) (λ m. Insts (g m)) (λ m sound_m. chosen-has Insts (m.id.0 == id.0) (f m) m (order m sound_m) sound_m.insts_rise) M.modules sound.modules);
    }

-- a module whose instances stay
module_kept : (M : Plain) (id : ModId) (f : PModule → PModule) → IsSound M → ((m : PModule) → module_number (f m) ≡ module_number m) → ((m : PModule) → (f m).insts ≡ m.insts) → InOrder (with_module M id f)
module_kept M id f sound same stay = module_changed M id f sound same (λ m sound_m. rw (stay m) sound_m.insts_rise)

inst_changed : (M : Plain) (id : ModId) (i : InstId) (f : PInst → PInst) → IsSound M → ((x : PInst) → inst_number (f x) ≡ inst_number x) → InOrder (with_inst M id i f)
inst_changed M id i f sound same =
    let g : PInst → PInst = λ x. cond (x.id.0 == i.0) (f x) x in
    module_changed M id (with_insts g) sound (λ m. refl)
    (λ m sound_m. rises-map inst_number g (λ x. chosen inst_number (x.id.0 == i.0) (f x) x (same x)) m.insts sound_m.insts_rise)

instances_changed : (M : Plain) (id : ModId) (f : PInst → PInst) → InOrder M → ((x : PInst) → inst_number (f x) ≡ inst_number x) → InOrder (at_instances M id f)
instances_changed M id f order same =
    let g : PInst → PInst = λ x. cond (x.master.0 == id.0) (f x) x in
    record {
      modules = rises-map module_number (with_insts g) (λ m. refl) M.modules order.modules;
      insts = All-map Insts (with_insts g) M.modules
          (All-weaker Insts (λ m. Insts (with_insts g m)) (λ m rise. rises-map inst_number g (λ x. chosen inst_number (x.master.0 == id.0) (f x) x (same x)) m.insts rise) M.modules order.insts);
    }

last_added : (M : Plain) (m : PModule) → InOrder M → All (λ (x : PModule). module_number x < M.next_module) M.modules → module_number m ≡ M.next_module → Insts m → InOrder (with_last_module M m)
last_added M m order below last insts = record {
  modules = rises-push module_number M.modules m order.modules (rw last below);
  insts = All-push Insts M.modules m order.insts insts;
}

-- an instance of a module of a table in order
inst_again : (M : Plain) (id : ModId) (i : InstId) (f : PInst → PInst) → InOrder M → ((x : PInst) → inst_number (f x) ≡ inst_number x) → InOrder (with_inst M id i f)
inst_again M id i f order same =
    let g : PInst → PInst = λ x. cond (x.id.0 == i.0) (f x) x in
    let h : PModule → PModule = λ m. cond (m.id.0 == id.0) (with_insts g m) m in
    record {
      modules = rises-map module_number h (λ m. chosen module_number (m.id.0 == id.0) (with_insts g m) m refl) M.modules order.modules;
      insts = All-map Insts h M.modules
          (All-weaker Insts (λ m. Insts (h m)) (λ m rise. chosen-has Insts (m.id.0 == id.0) (with_insts g m) m (rises-map inst_number g (λ x. chosen inst_number (x.id.0 == i.0) (f x) x (same x)) m.insts rise) rise) M.modules order.insts);
    }

copied : (M : Plain) (old : Option PModule) (name : List ℕ) → IsSound M → ((m : PModule) → old ≡ Some m → Insts m) → InOrder (with_copy M old name)
copied M None name sound rise = sound-order M sound
copied M (Some m) name sound rise = last_added M (record m { id = record { 0 = M.next_module }; name = name; locked = false }) (sound-order M sound) sound.below refl (rise m refl)

master-rise : (M : Plain) (i : Option PInst) → IsSound M → (m : PModule) → master_of M i ≡ Some m → Insts m
master-rise M None sound m is = let never : None ≡ Some m = is in absurd (cc)
master-rise M (Some i) sound m is = (sound-module M i.master m sound is).insts_rise

pub order-after : (M : Plain) (e : Edit) → IsSound M → InOrder (table_after M e)
order-after M (CreateModule name) sound = last_added M _ (sound-order M sound) sound.below refl (λ i j d before within. absurd (omega arith))
order-after M (DeleteModule m) sound =
    let stays : PModule → Bool = λ other. not (other.id.0 == m.0) in
    record {
      modules = AllPairs-filter (λ (a b : PModule). module_number a < module_number b) stays M.modules sound.rise;
      insts = All-filter stays Insts M.modules (sound-order M sound).insts;
    }
order-after M (CreateNet m name range) sound = module_kept M m _ sound (λ x. refl) (λ x. refl)
order-after M (DeleteNet m net) sound = module_kept M m _ sound (λ x. refl) (λ x. refl)
order-after M (CreatePort m name dir range) sound = instances_changed _ m _ (module_kept M m _ sound (λ x. refl) (λ x. refl)) (λ x. refl)
order-after M (DeletePort m port) sound = instances_changed _ m _ (module_kept M m _ sound (λ x. refl) (λ x. refl)) (λ x. refl)
order-after M (CreateInst m name master) sound =
    module_changed M m _ sound (λ x. refl) (λ x sound_x. rises-push inst_number x.insts _ sound_x.insts_rise sound_x.insts_below)
order-after M (DeleteInst m i) sound =
    module_changed M m _ sound (λ x. refl) (λ x sound_x. AllPairs-filter (λ (a b : PInst). inst_number a < inst_number b) (λ other. not (other.id.0 == i.0)) x.insts sound_x.insts_rise)
order-after M (Connect m i port bits) sound = inst_changed M m i _ sound (λ x. refl)
order-after M (Disconnect m i port) sound = inst_changed M m i _ sound (λ x. refl)
order-after M (RenameModule m name) sound = module_kept M m _ sound (λ x. refl) (λ x. refl)
order-after M (RenameNet m net name) sound = module_kept M m _ sound (λ x. refl) (λ x. refl)
order-after M (RenameInst m i name) sound = inst_changed M m i _ sound (λ x. refl)
order-after M (Resize m i master) sound = inst_changed M m i _ sound (λ x. refl)
order-after M (Uniquify m i name) sound = inst_again _ m i _ (copied M (master_of M (inst_in M m i)) name sound (master-rise M (inst_in M m i) sound)) (λ x. refl)
order-after M (Place path placement) sound = sound-order M sound
order-after M (Unplace path) sound = sound-order M sound
order-after M (Lock m) sound = module_kept M m _ sound (λ x. refl) (λ x. refl)
order-after M (Unlock m) sound = module_kept M m _ sound (λ x. refl) (λ x. refl)
order-after M (SetFanout max cell) sound = sound-order M sound
order-after M (SetGrid grid) sound = sound-order M sound

-- modules stay in order where one is changed and keeps its id
pub rise_changed : (M : Plain) (id : ModId) (f : PModule → PModule) → ((m : PModule) → (f m).id.0 ≡ m.id.0) → AllPairs (λ (a b : PModule). a.id.0 < b.id.0) M.modules → AllPairs (λ (a b : PModule). a.id.0 < b.id.0) (with_module M id f).modules
rise_changed M id f same rise =
    let g : PModule → PModule = λ m. cond (m.id.0 == id.0) (f m) m in
    rises-map module_number g (λ m. chosen module_number (m.id.0 == id.0) (f m) m (same m)) M.modules rise
