-- Sums over occurrences, counted once a module.
use Rattle.std.proofs.Common.{◌≡◌, ℕ, zero, suc, ◌+◌, ◌<◌, ◌≤◌, ◌==◌, Bool, true, false, cond, ◌||◌, min, nat_lt, List, [], ◌∷◌, ◌++◌, length, sum_by, count_by, refl, ap, ◌∙◌, arith}
use Rattle.std.specs.List.{flat_map, list_any}
use Rattle.std.proofs.lemmas.List.Sums.{sum_by-cons, sum_by-append, count_by-le-length}
use Rattle.emh_base.specs.declared.ids.ModId.{ModId}
use Rattle.emh_base.specs.declared.ids.InstId.{InstId}
use Rattle.emh_base.specs.declared.plain.PInst.{PInst}
use Rattle.emh_base.specs.declared.plain.Plain.{Plain}
use Rattle.flatten_rules.specs.Lookup.{module_of, insts_of}
use Rattle.flatten_rules.specs.Unfolding.{Occurrence, unfolded, occurrences}
use Rattle.flatten_rules.specs.Limits.{bits_of}
use Rattle.flatten_rules.specs.Counting.{total}
use Rattle.flatten_rules.specs.Limits.{has_too_many_occurrences, has_too_many_bits, leads_to}
use Rattle.flatten_rules.specs.inside.Levels.{counted}

sum_by-flat_map : {X Y : Type 0} (number : Y → ℕ) (items : X → List Y) (xs : List X) → sum_by number (flat_map items xs) ≡ sum_by (λ x. sum_by number (items x)) xs
sum_by-flat_map number items [] = refl
sum_by-flat_map number items (x ∷ xs) =
    omega (arith, sum_by-append number (items x) (flat_map items xs), sum_by-cons (λ x. sum_by number (items x)) x xs, sum_by-flat_map number items xs)

sum_by_same : {X : Type 0} (f g : X → ℕ) → ((x : X) → f x ≡ g x) → (xs : List X) → sum_by f xs ≡ sum_by g xs
sum_by_same f g same [] = refl
sum_by_same f g same (x ∷ xs) = omega (arith, sum_by-cons f x xs, sum_by-cons g x xs, same x, sum_by_same f g same xs)

pub length-sum_by : {X : Type 0} (xs : List X) → length xs ≡ sum_by (λ x. 1) xs
length-sum_by [] = refl
length-sum_by {X} (x ∷ xs) = omega (arith, sum_by-cons (λ (y : X). 1) x xs, length-sum_by xs)

pub total-unfolded : (number : ModId → ℕ) (M : Plain) (levels : ℕ) (path : List InstId) (m : ModId) → sum_by (λ (o : Occurrence). number o.1) (unfolded M path m levels) ≡ total number M m levels
unfolding unfolded total
total-unfolded number M zero path m = refl
total-unfolded number M (suc levels) path m =
    let of : Occurrence → ℕ = λ o. number o.1 in
    let below : PInst → List Occurrence = λ inst. unfolded M (path ++ inst.id ∷ []) inst.master levels in
    let insts : List PInst = insts_of (module_of M m) in
    omega (arith, sum_by-cons of (path, m) (flat_map below insts), sum_by-flat_map of below insts, sum_by_same (λ inst. sum_by of (below inst)) (λ inst. total number M inst.master levels) (λ inst. total-unfolded number M levels (path ++ inst.id ∷ []) inst.master) insts)

-- a number that stops past a limit tells whether the limit is passed
capped : (limit n : ℕ) → limit < 4000001 → nat_lt limit n ≡ nat_lt limit (min n 4000001)
capped limit n low = grind (arith)

any_step : (b any : Bool) (sum : ℕ) → any ≡ nat_lt 0 sum → b || any ≡ nat_lt 0 (cond b 1 0 + sum)
any_step true any sum e = grind (arith)
any_step false any sum e = grind (arith)

pub many-occurrences : (M : Plain) (top : ModId) → has_too_many_occurrences M top ≡ nat_lt 1000000 (counted (λ _ _. 1) M 257 top)
many-occurrences M top =
    let same : length (occurrences M top) ≡ total (λ m. 1) M top 257 = length-sum_by (occurrences M top) ∙ total-unfolded (λ m. 1) M 257 [] top in
    ap (nat_lt 1000000) same ∙ capped 1000000 (total (λ m. 1) M top 257) (omega arith)

pub many-bits : (M : Plain) (top : ModId) → has_too_many_bits M top ≡ nat_lt 4000000 (counted (λ _ m. bits_of m) M 257 top)
many-bits M top =
    ap (nat_lt 4000000) (total-unfolded (λ m. bits_of (module_of M m)) M 257 [] top) ∙ capped 4000000 (total (λ m. bits_of (module_of M m)) M top 257) (omega arith)

-- one of some passes a test where one at least is counted
any-sum_by : {X : Type 0} (p : X → Bool) (xs : List X) → list_any p xs ≡ nat_lt 0 (sum_by (λ x. cond (p x) 1 0) xs)
any-sum_by p [] = refl
any-sum_by {X} p (x ∷ xs) = rw (sum_by-cons (λ (y : X). cond (p y) 1 0) x xs) (any_step (p x) (list_any p xs) (sum_by (λ y. cond (p y) 1 0) xs) (any-sum_by p xs))

pub leads-total : (M : Plain) (from to : ModId) → leads_to M from to ≡ nat_lt 0 (total (λ m. cond (m.0 == to.0) 1 0) M from 257)
leads-total M from to =
    any-sum_by (λ (o : Occurrence). o.1.0 == to.0) (occurrences M from)
    ∙ ap (nat_lt 0) (total-unfolded (λ m. cond (m.0 == to.0) 1 0) M 257 [] from)

pub leads-counted : (M : Plain) (from to : ModId) → leads_to M from to ≡ nat_lt 0 (counted (λ m _. cond (m.0 == to.0) 1 0) M 257 from)
leads-counted M from to = leads-total M from to ∙ capped 0 (total (λ m. cond (m.0 == to.0) 1 0) M from 257) (omega arith)

-- where it is within the limits, nothing is capped
pub occurrences-counted : (M : Plain) (top : ModId) → length (occurrences M top) ≤ 1000000 → counted (λ _ _. 1) M 257 top ≡ length (occurrences M top)
occurrences-counted M top few =
    let same : length (occurrences M top) ≡ total (λ m. 1) M top 257 = length-sum_by (occurrences M top) ∙ total-unfolded (λ m. 1) M 257 [] top in
    omega (arith, same, few)

pub bits-counted : (M : Plain) (top : ModId) → sum_by (λ (o : Occurrence). bits_of (module_of M o.1)) (occurrences M top) ≤ 4000000
    → counted (λ _ m. bits_of m) M 257 top ≡ sum_by (λ (o : Occurrence). bits_of (module_of M o.1)) (occurrences M top)
bits-counted M top few =
    let same : sum_by (λ (o : Occurrence). bits_of (module_of M o.1)) (occurrences M top) ≡ total (λ m. bits_of (module_of M m)) M top 257 = total-unfolded (λ m. bits_of (module_of M m)) M 257 [] top in
    omega (arith, same, few)

pub times-counted : (M : Plain) (top id : ModId) → length (occurrences M top) ≤ 1000000
    → counted (λ m _. cond (m.0 == id.0) 1 0) M 257 top ≡ count_by (λ (o : Occurrence). o.1.0 == id.0) (occurrences M top)
times-counted M top id few =
    let same : count_by (λ (o : Occurrence). o.1.0 == id.0) (occurrences M top) ≡ total (λ m. cond (m.0 == id.0) 1 0) M top 257 = total-unfolded (λ m. cond (m.0 == id.0) 1 0) M 257 [] top in
    omega (arith, same, few, count_by-le-length (λ (o : Occurrence). o.1.0 == id.0) (occurrences M top))
