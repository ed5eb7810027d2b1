-- Walks of instances, and how high modules are.
use Rattle.std.proofs.Common.{◌≡◌, ℕ, zero, suc, ◌+◌, ◌-◌, ◌==◌, ◌<◌, ◌≤◌, max, Bool, true, false, cond, List, [], ◌∷◌, length, get_or, find, Option, Some, None, option_and_then, is_some, IsSome, All, AllPairs, refl, sym, ap, ◌∙◌, arith, ⊎_elim, subst}
use Rattle.std.specs.List.{position_or_len}
use Rattle.std.proofs.lemmas.Bool.{false≢true, true≢false, cases_lt}
use Rattle.std.proofs.lemmas.Bool.Decides.{nat_tests}
use Rattle.std.proofs.lemmas.Option.{slice_get-get_or}
use Rattle.std.proofs.lemmas.List.Folds.{find_at}
use Rattle.std.proofs.lemmas.List.Sums.{position_or_len_is}
use Rattle.std.proofs.lemmas.List.Elements.{All-tail, All-head}
use Rattle.emh_base.specs.declared.ids.ModId.{ModId}
use Rattle.emh_base.specs.declared.ids.NetId.{NetId}
use Rattle.emh_base.specs.declared.ids.InstId.{InstId}
use Rattle.emh_base.specs.declared.plain.PNet.{PNet}
use Rattle.emh_base.specs.declared.plain.PInst.{PInst}
use Rattle.emh_base.specs.declared.plain.PModule.{PModule}
use Rattle.emh_base.specs.declared.plain.Plain.{Plain}
use Rattle.flatten_rules.specs.Lookup.{module_of, net_of, inst_of}
use Rattle.flatten_rules.specs.Unfolding.{module_up}
use Rattle.flatten_rules.specs.Sound.{IsSound, IsSoundModule}
use Rattle.flatten_rules.specs.Counting.{greatest_by, height}
use Rattle.flatten_rules.proofs.Sound.{sound-module, master-there}

-- in a list in rising order an item is found by its number
pub find-own : {X : Type 0} (number : X → ℕ) (xs : List X) → AllPairs (λ a b. number a < number b) xs → (k : ℕ) (d : X) → k < length xs → find (λ x. number x == number (get_or xs k d)) xs ≡ Some (get_or xs k d)
find-own {X} number xs rise k d within =
    let test : X → Bool = λ x. number x == number (get_or xs k d) in
    let place : position_or_len test xs ≡ k =
    position_or_len_is test xs k d (omega arith) (λ j below. let low = rise j k d below within in grind (arith, nat_tests)) (λ _. grind (arith, nat_tests)) in
    find_at test xs ∙ rw place (slice_get-get_or xs k d within)

pub and_then-some : {X Y : Type 0} (f : X → Option Y) (o : Option X) (y : Y) → option_and_then f o ≡ Some y → (x : X) × (o ≡ Some x) × (f x ≡ Some y)
and_then-some f None y e = absurd (cc)
and_then-some f (Some x) y e = (x, refl, e)

-- an option holds one value
pub same-some : {X : Type 0} (o : Option X) (x y : X) → o ≡ Some x → o ≡ Some y → x ≡ y
same-some o x y a b = let both : Some x ≡ Some y = sym a ∙ b in cc

found_here : {X : Type 0} (test : X → Bool) (number : X → ℕ) (b : Bool) (y x : X) (rest : Option X) (top : ℕ) → test y ≡ b → (rest ≡ Some x → (test x ≡ true) × (number x ≤ top)) → cond b (Some y) rest ≡ Some x → (test x ≡ true) × (number x ≤ max (number y) top)
found_here test number true y x rest top here there e = let same : y ≡ x = cc in let at : number y ≡ number x = ap number same in (cc, omega arith)
found_here test number false y x rest top here there e = ((there e).0, omega (arith, (there e).1))

-- an item that is found passes, and has no number above the greatest
find-greatest : {X : Type 0} (test : X → Bool) (number : X → ℕ) (xs : List X) (x : X) → find test xs ≡ Some x → (test x ≡ true) × (number x ≤ greatest_by number xs)
find-greatest test number [] x e = let never : None ≡ Some x = e in absurd (cc)
find-greatest test number (y ∷ ys) x e = found_here test number (test y) y x (find test ys) (greatest_by number ys) refl (find-greatest test number ys x) e

pub find-passes : {X : Type 0} (test : X → Bool) (xs : List X) (x : X) → find test xs ≡ Some x → test x ≡ true
find-passes {X} test xs x e = (find-greatest test (λ (y : X). 0) xs x e).0

-- a module that is found has the id that was looked for
pub id-of_found : (M : Plain) (id : ModId) (m : PModule) → module_of M id ≡ Some m → m.id ≡ id
id-of_found M id m found =
    let same : m.id.0 ≡ id.0 = let passes = (find-greatest (λ x. x.id.0 == id.0) (λ x. 0) M.modules m found).0 in grind (arith, nat_tests) in
    let make : ℕ → ModId = λ n. record { 0 = n } in
    ap make same

-- and a net too
pub id-of_net : (m : PModule) (id : NetId) (net : PNet) → net_of m id ≡ Some net → net.id ≡ id
id-of_net m id net found =
    let same : net.id.0 ≡ id.0 = let passes = (find-greatest (λ x. x.id.0 == id.0) (λ x. 0) m.nets net found).0 in grind (arith, nat_tests) in
    let make : ℕ → NetId = λ n. record { 0 = n } in
    ap make same

pub found-own : (M : Plain) (id : ModId) (m : PModule) → module_of M id ≡ Some m → module_of M m.id ≡ Some m
found-own M id m found = let Found : ModId → Type 0 = λ at. module_of M at ≡ Some m in subst Found (sym (id-of_found M id m found)) found

height-step : (M : Plain) (m : PModule) (levels : ℕ) → module_of M m.id ≡ Some m → height M m.id (suc levels) ≡ greatest_by (λ (inst : PInst). suc (height M inst.master levels)) m.insts
unfolding height
height-step M m levels found = rw found refl

-- one step of a walk
pub record Step (M : Plain) (top : ModId) (i : InstId) (up : List InstId) (m : PModule) : Type 0 where
  pub holder : PModule
  pub above : module_up M top up ≡ Some holder
  pub inst : PInst
  pub found : inst_of holder i ≡ Some inst
  pub master : module_of M inst.master ≡ Some m

pub last_step : (M : Plain) (top : ModId) (i : InstId) (up : List InstId) (m : PModule) → module_up M top (i ∷ up) ≡ Some m → Step M top i up m
unfolding module_up
last_step M top i up m leads =
    let by_inst = and_then-some (λ (inst : PInst). module_of M inst.master) (option_and_then (λ (x : PModule). inst_of x i) (module_up M top up)) m leads in
    let by_holder = and_then-some (λ (x : PModule). inst_of x i) (module_up M top up) by_inst.0 by_inst.1 in
    record { holder = by_holder.0; above = by_holder.1; inst = by_inst.0; found = by_holder.2; master = by_inst.2 }

-- the module at the end of a walk is in the table
pub up-own : (M : Plain) (top : ModId) (up : List InstId) (m : PModule) → module_up M top up ≡ Some m → module_of M m.id ≡ Some m
unfolding module_up
up-own M top [] m leads = found-own M top m leads
up-own M top (i ∷ up) m leads = let step = last_step M top i up m leads in found-own M step.inst.master m step.master

-- and sound
pub sound-up : (M : Plain) (top : ModId) (up : List InstId) (m : PModule) → IsSound M → module_up M top up ≡ Some m → IsSoundModule M m
sound-up M top up m sound leads = sound-module M m.id m sound (up-own M top up m leads)

-- a module is as high as the walks from it are long
walk-height : (M : Plain) (top : ModId) (up : List InstId) (m : PModule) (levels : ℕ) → module_up M top up ≡ Some m → length up + height M m.id levels ≤ height M top (length up + levels)
unfolding module_up
walk-height M top [] m levels leads =
    let same : m.id ≡ top = id-of_found M top m leads in
    let here : height M m.id levels ≡ height M top levels = ap (λ (at : ModId). height M at levels) same in
    let none : 0 + levels ≡ levels = omega arith in
    rw none (omega arith)
walk-height M top (i ∷ up) m levels leads =
    let step = last_step M top i up m leads in
    let before = walk-height M top up step.holder (suc levels) step.above in
    let high : height M step.holder.id (suc levels) ≡ greatest_by (λ (inst : PInst). suc (height M inst.master levels)) step.holder.insts = height-step M step.holder levels (up-own M top up step.holder step.above) in
    let one = (find-greatest (λ (inst : PInst). inst.id.0 == i.0) (λ (inst : PInst). suc (height M inst.master levels)) step.holder.insts step.inst step.found).1 in
    let same : height M m.id levels ≡ height M step.inst.master levels = ap (λ (at : ModId). height M at levels) (id-of_found M step.inst.master m step.master) in
    let sum : length (i ∷ up) + levels ≡ length up + suc levels = omega arith in
    rw sum (omega (arith, before, high, one, same))

greatest_by-le : {X : Type 0} (number : X → ℕ) (bound : ℕ) (xs : List X) → All (λ x. number x ≤ bound) xs → greatest_by number xs ≤ bound
greatest_by-le number bound [] all = omega arith
greatest_by-le number bound (x ∷ xs) all = omega (arith, All-head (λ x. number x ≤ bound) x xs all, greatest_by-le number bound xs (All-tail (λ x. number x ≤ bound) x xs all))

pub some-there : {X : Type 0} (o : Option X) → IsSome o → (x : X) × (o ≡ Some x)
some-there None some = absurd (false≢true some)
some-there (Some x) some = (x, refl)

pub none-there : {X : Type 0} (o : Option X) → is_some o ≡ false → o ≡ None
none-there None none = refl
none-there (Some x) none = absurd (true≢false none)

abbrev pub WalksWithin : Plain → ℕ → Type 0
WalksWithin M limit = (m : ModId) (up : List InstId) → IsSome (module_up M m up) → length up ≤ limit

-- where walks are within a limit, a walk and what its end is high are
end-within : (M : Plain) (limit : ℕ) → IsSound M → WalksWithin M limit → (levels : ℕ) (top : ModId) (up : List InstId) (m : PModule) → module_up M top up ≡ Some m → length up + height M m.id levels ≤ limit
unfolding height module_up
end-within M limit sound walks zero top up m leads = let short : length up ≤ limit = walks top up (rw leads refl) in omega arith
end-within M limit sound walks (suc levels) top up m leads =
    let found : module_of M m.id ≡ Some m = up-own M top up m leads in
    let sound_m : IsSoundModule M m = sound-module M m.id m sound found in
    let short : length up ≤ limit = walks top up (rw leads refl) in
    let Below : PInst → Type 0 = λ (inst : PInst). suc (height M inst.master levels) ≤ limit - length up in
    let each : All Below m.insts = λ k d within.
    let inst : PInst = get_or m.insts k d in
    let there = some-there (module_of M inst.master) (master-there M m inst (sound_m.masters k d within)) in
    let x : PModule = there.0 in
    let down : module_up M top (inst.id ∷ up) ≡ Some x = rw (leads, find-own (λ (inst : PInst). inst.id.0) m.insts sound_m.insts_rise k d within) there.1 in
    let same : height M x.id levels ≡ height M inst.master levels = ap (λ (at : ModId). height M at levels) (id-of_found M inst.master x there.1) in
    omega (arith, end-within M limit sound walks levels top (inst.id ∷ up) x down)
    in
    omega (arith, short, height-step M m levels found, greatest_by-le (λ (inst : PInst). suc (height M inst.master levels)) (limit - length up) m.insts each)

height-absent : (M : Plain) (m : ModId) (levels : ℕ) → module_of M m ≡ None → height M m levels ≡ 0
unfolding height
height-absent M m zero absent = refl
height-absent M m (suc levels) absent = rw absent refl

pub within-by_cases : (M : Plain) (m : ModId) (levels limit : ℕ) (found : Option PModule) → module_of M m ≡ found → ((x : PModule) → module_of M m ≡ Some x → height M m levels ≤ limit) → height M m levels ≤ limit
within-by_cases M m levels limit None is here = omega (arith, height-absent M m levels is)
within-by_cases M m levels limit (Some x) is here = here x is

-- where walks are within a limit, all modules are
pub height-within : (M : Plain) (limit : ℕ) → IsSound M → WalksWithin M limit → (m : ModId) (levels : ℕ) → height M m levels ≤ limit
unfolding module_up
height-within M limit sound walks m levels =
    within-by_cases M m levels limit (module_of M m) refl (λ x found.
    let same : height M x.id levels ≡ height M m levels = ap (λ (at : ModId). height M at levels) (id-of_found M m x found) in
    omega (arith, same, end-within M limit sound walks levels m [] x found))

-- and the other way round
pub walks-within : (M : Plain) (limit : ℕ) → ((m : ModId) → height M m (limit + 1) ≤ limit) → WalksWithin M limit
unfolding module_up
walks-within M limit low m [] some = omega arith
walks-within M limit low m (i ∷ up) some =
    let there = some-there (module_up M m (i ∷ up)) some in
    let step = last_step M m i up there.0 there.1 in
    let before : length up ≤ limit = walks-within M limit low m up (rw step.above refl) in
    ⊎_elim (λ (below : length (i ∷ up) < limit + 1). omega arith)
    (λ (above : limit + 1 ≤ length (i ∷ up)).
    let all : length (i ∷ up) + 0 ≡ limit + 1 = omega arith in
    let high : length (i ∷ up) + height M there.0.id 0 ≤ height M m (limit + 1) = rw (← all) (walk-height M m (i ∷ up) there.0 0 there.1) in
    absurd (omega (arith, low m, high)))
    (cases_lt (length (i ∷ up)) (limit + 1))
