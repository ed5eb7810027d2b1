-- A made design grows by one module, which draws three numbers.
use Rattle.std.proofs.Common.{◌≡◌, ℕ, zero, suc, ◌+◌, ◌*◌, ◌-◌, ◌≤◌, List, [], ◌∷◌, ◌++◌, map, refl, sym, ap, ◌∙◌, arith}
use Rattle.std.specs.List.{range_with_len}
use Rattle.std.proofs.lemmas.List.{map-append}
use Rattle.std.proofs.lemmas.List.FromFn.{map-range_with_len_more}
use Rattle.emh_base.specs.declared.plain.PModule.{PModule}
use Rattle.gen_design.specs.Random.{drawn, after_draws, given}
use Rattle.gen_design.specs.Made.{inverter, later_module, made_module}

-- one item more of a list that is made by number
pub one-more : {X : Type 0} (f : ℕ → X) (k : ℕ) (now new : List X) (item : X) → now ≡ map f (range_with_len 0 k) → item ≡ f k → new ≡ now ++ item ∷ [] → new ≡ map f (range_with_len 0 (k + 1))
one-more {X} f k now new item is here push =
    push ∙ ap (λ (xs : List X). xs ++ item ∷ []) is ∙ ap (λ (x : X). map f (range_with_len 0 k) ++ x ∷ []) here
    ∙ sym (map-range_with_len_more f 0 k k (omega arith))

pub two-more : {X : Type 0} (g : ℕ → X) (f : ℕ → ℕ) (k : ℕ) (now new : List X) (item : X) → now ≡ map g (map f (range_with_len 0 k)) → item ≡ g (f k) → new ≡ now ++ item ∷ []
    → new ≡ map g (map f (range_with_len 0 (k + 1)))
two-more {X} g f k now new item is here push =
    push ∙ ap (λ (xs : List X). xs ++ item ∷ []) is ∙ ap (λ (x : X). map g (map f (range_with_len 0 k)) ++ x ∷ []) here
    ∙ sym (map-append g (map f (range_with_len 0 k)) (f k ∷ []))
    ∙ sym (ap (map g) (map-range_with_len_more f 0 k k (omega arith)))

drawn-next : (x n : ℕ) → after_draws x (n + 1) ≡ drawn (after_draws x n)
drawn-next x n = let next : n + 1 ≡ suc n = omega arith in ap (after_draws x) next

module _ (x j random first second third : ℕ) (later : 1 ≤ j) (at : random ≡ after_draws x (3 * (j - 1)))
    (one : first ≡ drawn random) (two : second ≡ drawn first) (three : third ≡ drawn second) where
  by-one : first ≡ after_draws x (3 * (j - 1) + 1)
  by-one = one ∙ ap drawn at ∙ sym (drawn-next x (3 * (j - 1)))

  by-two : second ≡ after_draws x (3 * (j - 1) + 2)
  by-two =
      let next : 3 * (j - 1) + 1 + 1 ≡ 3 * (j - 1) + 2 = omega arith in
      two ∙ ap drawn by-one ∙ sym (drawn-next x (3 * (j - 1) + 1)) ∙ ap (after_draws x) next

  by-three : third ≡ after_draws x (3 * (j - 1) + 3)
  by-three =
      let next : 3 * (j - 1) + 2 + 1 ≡ 3 * (j - 1) + 3 = omega arith in
      three ∙ ap drawn by-two ∙ sym (drawn-next x (3 * (j - 1) + 2)) ∙ ap (after_draws x) next

  pub three-drawn : third ≡ after_draws x (3 * ((j + 1) - 1))
  three-drawn = let next : 3 * (j - 1) + 3 ≡ 3 * ((j + 1) - 1) = omega arith in by-three ∙ ap (after_draws x) next

made-later : (x w j : ℕ) → 1 ≤ j
    → later_module w j (given (after_draws x (3 * (j - 1) + 1))) (given (after_draws x (3 * (j - 1) + 2))) (given (after_draws x (3 * (j - 1) + 3))) ≡ made_module x w j
made-later x w zero later = absurd (omega arith)
made-later x w (suc k) later =
    let same : suc k - 1 ≡ k = omega arith in
    ap (λ n. later_module w (suc k) (given (after_draws x (3 * n + 1))) (given (after_draws x (3 * n + 2))) (given (after_draws x (3 * n + 3)))) same

-- the module of three draws is the next one
pub drawn-module : (x w j random first second third a b c : ℕ) → 1 ≤ j → random ≡ after_draws x (3 * (j - 1)) → first ≡ drawn random → second ≡ drawn first → third ≡ drawn second
    → a ≡ given first → b ≡ given second → c ≡ given third → later_module w j a b c ≡ made_module x w j
drawn-module x w j random first second third a b c later at one two three is_a is_b is_c =
    ap (λ n. later_module w j n b c) (is_a ∙ ap given (by-one x j random first second third later at one two three))
    ∙ ap (λ n. later_module w j (given (after_draws x (3 * (j - 1) + 1))) n c) (is_b ∙ ap given (by-two x j random first second third later at one two three))
    ∙ ap (later_module w j (given (after_draws x (3 * (j - 1) + 1))) (given (after_draws x (3 * (j - 1) + 2)))) (is_c ∙ ap given (by-three x j random first second third later at one two three))
    ∙ made-later x w j later

pub module-more : (x w j : ℕ) (now new : List PModule) (item : PModule) → now ≡ inverter ∷ map (made_module x w) (range_with_len 0 j) → item ≡ made_module x w j → new ≡ now ++ item ∷ []
    → new ≡ inverter ∷ map (made_module x w) (range_with_len 0 (j + 1))
module-more x w j now new item is here push =
    push ∙ ap (λ (xs : List PModule). xs ++ item ∷ []) is
    ∙ ap (λ (xs : List PModule). inverter ∷ xs) (one-more (made_module x w) j (map (made_module x w) (range_with_len 0 j)) (map (made_module x w) (range_with_len 0 j) ++ item ∷ []) item refl here refl)
