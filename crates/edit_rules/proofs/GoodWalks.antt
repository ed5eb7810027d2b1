-- A table whose modules stand each below one of another table: its walks are no longer, and it counts no more.
use Rattle.std.proofs.Common.{◌≡◌, ℕ, zero, suc, ◌+◌, ◌≤◌, ◌⊎◌, ⊎_elim, List, [], ◌∷◌, ◌++◌, length, sum_by, Option, Some, option_and_then, refl, sym, ap, ◌∙◌, arith}
use Rattle.std.proofs.lemmas.List.{length-append}
use Rattle.std.proofs.lemmas.List.Sums.{sum_by-cons}
use Rattle.emh_base.specs.declared.ids.ModId.{ModId}
use Rattle.emh_base.specs.declared.ids.InstId.{InstId}
use Rattle.emh_base.specs.declared.plain.PInst.{PInst}
use Rattle.emh_base.specs.declared.plain.PModule.{PModule}
use Rattle.emh_base.specs.declared.plain.Plain.{Plain}
use Rattle.flatten_rules.specs.Lookup.{module_of, inst_of, insts_of}
use Rattle.flatten_rules.specs.Unfolding.{Occurrence, occurrences, module_up}
use Rattle.flatten_rules.specs.Cycle.{OnCycle}
use Rattle.flatten_rules.specs.Limits.{bits_of, WalksAreShort, IsWithin}
use Rattle.flatten_rules.specs.Counting.{height, total, greatest_by}
use Rattle.flatten_rules.specs.Sound.{IsSound}
use Rattle.flatten_rules.proofs.Walks.{up-own, height-within, walks-within}
use Rattle.flatten_rules.proofs.Summing.{length-sum_by, total-unfolded}

abbrev one : ModId → ℕ
one m = 1

abbrev bits_in : Plain → ModId → ℕ
bits_in M m = bits_of (module_of M m)

-- the masters of some instances stand each below one of the others', in their order
abbrev pub AreBelow : (ModId → ModId → Type 0) → List PInst → List PInst → Type 0
AreBelow Below [] ys = Unit {0}
AreBelow Below (x ∷ xs) [] = ⊥
AreBelow Below (x ∷ xs) (y ∷ ys) = (Below x.master y.master × AreBelow Below xs ys) ⊎ AreBelow Below (x ∷ xs) ys

-- the instances of a module that stands below another do
abbrev pub IsBelow : Plain → Plain → (ModId → ModId → Type 0) → Type 0
IsBelow N M Below = (a b : ModId) → Below a b → AreBelow Below (insts_of (module_of N a)) (insts_of (module_of M b))

module _ (Below : ModId → ModId → Type 0) where
  sum-below : (f g : PInst → ℕ) → ((x y : PInst) → Below x.master y.master → f x ≤ g y) → (xs ys : List PInst) → AreBelow Below xs ys → sum_by f xs ≤ sum_by g ys
  sum-below f g low [] ys below = omega arith
  sum-below f g low (x ∷ xs) [] below = absurd below
  sum-below f g low (x ∷ xs) (y ∷ ys) below = ⊎_elim
      (λ (here : Below x.master y.master × AreBelow Below xs ys).
      omega (arith, sum_by-cons f x xs, sum_by-cons g y ys, low x y here.0, sum-below f g low xs ys here.1))
      (λ (later : AreBelow Below (x ∷ xs) ys). omega (arith, sum_by-cons g y ys, sum-below f g low (x ∷ xs) ys later))
      below

  greatest-below : (f g : PInst → ℕ) → ((x y : PInst) → Below x.master y.master → f x ≤ g y) → (xs ys : List PInst) → AreBelow Below xs ys → greatest_by f xs ≤ greatest_by g ys
  greatest-below f g low [] ys below = omega arith
  greatest-below f g low (x ∷ xs) [] below = absurd below
  greatest-below f g low (x ∷ xs) (y ∷ ys) below = ⊎_elim
      (λ (here : Below x.master y.master × AreBelow Below xs ys). omega (arith, low x y here.0, greatest-below f g low xs ys here.1))
      (λ (later : AreBelow Below (x ∷ xs) ys). omega (arith, greatest-below f g low (x ∷ xs) ys later))
      below

module _ (N M : Plain) (Below : ModId → ModId → Type 0) (is : IsBelow N M Below) where
  height-below : (levels : ℕ) (a b : ModId) → Below a b → height N a levels ≤ height M b levels
  unfolding height
  height-below zero a b below = omega arith
  height-below (suc levels) a b below =
      greatest-below Below (λ (inst : PInst). suc (height N inst.master levels)) (λ (inst : PInst). suc (height M inst.master levels))
      (λ x y low. omega (arith, height-below levels x.master y.master low)) (insts_of (module_of N a)) (insts_of (module_of M b)) (is a b below)

  total-below : (f g : ModId → ℕ) → ((a b : ModId) → Below a b → f a ≤ g b) → (levels : ℕ) (a b : ModId) → Below a b → total f N a levels ≤ total g M b levels
  unfolding total
  total-below f g low zero a b below = omega arith
  total-below f g low (suc levels) a b below =
      omega (
        arith,
        low a b below,
        sum-below Below (λ (inst : PInst). total f N inst.master levels) (λ (inst : PInst). total g M inst.master levels)
            (λ x y under. total-below f g low levels x.master y.master under) (insts_of (module_of N a)) (insts_of (module_of M b)) (is a b below),
      )

  -- walks are no longer
  pub short-below : IsSound M → WalksAreShort M → ((a : ModId) → (b : ModId) × Below a b) → WalksAreShort N
  short-below sound short each =
      walks-within N 256 (λ a. omega (arith, height-below 257 a (each a).0 (each a).1, height-within M 256 sound short (each a).0 257))

  -- and there are no more occurrences
  pub size-below : (a b : ModId) → Below a b → length (occurrences N a) ≤ length (occurrences M b)
  size-below a b below =
      omega (
        arith,
        length-sum_by (occurrences N a),
        length-sum_by (occurrences M b),
        total-unfolded one N 257 [] a,
        total-unfolded one M 257 [] b,
        total-below one one (λ x y low. omega arith) 257 a b below,
      )

  -- nor bits
  pub bits-below : ((a b : ModId) → Below a b → bits_of (module_of N a) ≤ bits_of (module_of M b)) → (a b : ModId) → Below a b
      → sum_by (λ (o : Occurrence). bits_of (module_of N o.1)) (occurrences N a) ≤ sum_by (λ (o : Occurrence). bits_of (module_of M o.1)) (occurrences M b)
  bits-below few a b below =
      omega (arith, total-unfolded (bits_in N) N 257 [] a, total-unfolded (bits_in M) M 257 [] b, total-below (bits_in N) (bits_in M) few 257 a b below)

  pub within-below : (top : ModId) → IsSound M → IsWithin M top → ((a : ModId) → (b : ModId) × Below a b) → Below top top
      → ((a b : ModId) → Below a b → bits_of (module_of N a) ≤ bits_of (module_of M b)) → IsWithin N top
  within-below top sound within each here few = record {
    depth = short-below sound within.depth each;
    size = omega (arith, size-below top top here, within.size);
    bits = omega (arith, bits-below few top top here, within.bits);
  }

-- Where walks are short none returns.

up-append : (M : Plain) (top : ModId) (up : List InstId) (m : PModule) → module_up M top up ≡ Some m → (more : List InstId) → module_up M top (more ++ up) ≡ module_up M m.id more
unfolding module_up
up-append M top up m leads [] = leads ∙ sym (up-own M top up m leads)
up-append M top up m leads (i ∷ more) =
    ap (λ (o : Option PModule). option_and_then (λ (inst : PInst). module_of M inst.master) (option_and_then (λ (x : PModule). inst_of x i) o)) (up-append M top up m leads more)

round_again : (M : Plain) (m : PModule) → OnCycle M m → (n : ℕ) → (up : List InstId) × (n ≤ length up) × (module_up M m.id up ≡ Some m)
unfolding module_up
round_again M m cycle zero = ([], omega arith, up-own M m.id (cycle.0 ∷ cycle.1) m cycle.2)
round_again M m cycle (suc n) =
    let before = round_again M m cycle n in
    let longer : length ((cycle.0 ∷ cycle.1) ++ before.0) ≡ length (cycle.0 ∷ cycle.1) + length before.0 = length-append (cycle.0 ∷ cycle.1) before.0 in
    ((cycle.0 ∷ cycle.1) ++ before.0, omega (arith, before.1, longer), up-append M m.id before.0 m before.2 (cycle.0 ∷ cycle.1) ∙ cycle.2)

pub no_cycle-short : (M : Plain) → WalksAreShort M → (m : PModule) → OnCycle M m → ⊥
no_cycle-short M short m cycle =
    let walk = round_again M m cycle 257 in
    let low : length walk.0 ≤ 256 = short m.id walk.0 (rw walk.2 refl) in
    absurd (omega (arith, walk.1, low))
