-- What it says that no limit is passed.
use Rattle.std.proofs.Common.{◌≡◌, ℕ, ◌≤◌, nat_lt, Bool, true, false, List, length, get_or, sum_by, All, ap, sym, refl, ◌∙◌, ◌==◌, arith}
use Rattle.std.specs.List.{list_any}
use Rattle.std.proofs.lemmas.Bool.Decides.{nat_tests}
use Rattle.std.proofs.lemmas.List.Folds.{list_any_none, list_any_at}
use Rattle.emh_base.specs.declared.ids.ModId.{ModId}
use Rattle.emh_base.specs.declared.plain.PModule.{PModule}
use Rattle.emh_base.specs.declared.plain.Plain.{Plain}
use Rattle.flatten_rules.specs.Lookup.{module_of}
use Rattle.flatten_rules.specs.Unfolding.{Occurrence, occurrences}
use Rattle.flatten_rules.specs.Limits.{bits_of, WalksAreShort}
use Rattle.flatten_rules.specs.Counting.{height}
use Rattle.flatten_rules.specs.Sound.{IsSound}
use Rattle.flatten_rules.proofs.Sound.{All-find}
use Rattle.flatten_rules.proofs.Walks.{id-of_found, within-by_cases, height-within, walks-within}
use Rattle.flatten_rules.specs.Limits.{is_too_deep, IsWithinByTests}

pub at_most : (limit n : ℕ) → nat_lt limit n ≡ false → n ≤ limit
at_most limit n kept = grind (arith, nat_tests)

not-past : (n limit : ℕ) → n ≤ limit → nat_lt limit n ≡ false
not-past n limit few = grind (arith, nat_tests)

-- where none of some passes a test, each fails it
each-fails : {X : Type 0} (p : X → Bool) (xs : List X) → list_any p xs ≡ false → All (λ x. p x ≡ false) xs
each-fails p xs none k d within = by-test (p (get_or xs k d)) refl
  where
    by-test : (b : Bool) → p (get_or xs k d) ≡ b → p (get_or xs k d) ≡ false
    by-test true e = let never : false ≡ true = sym none ∙ list_any_at p xs k d within e in absurd (cc)
    by-test false e = e

module _ (M : Plain) (sound : IsSound M) where
  shallow : WalksAreShort M → is_too_deep M ≡ false
  shallow short =
      list_any_none (λ (m : PModule). nat_lt 256 (height M m.id 257)) M.modules
      (λ k d within. not-past (height M (get_or M.modules k d).id 257) 256 (height-within M 256 sound short (get_or M.modules k d).id 257))

  short : is_too_deep M ≡ false → WalksAreShort M
  short tested =
      let Low : PModule → Type 0 = λ x. height M x.id 257 ≤ 256 in
      let tests : All (λ (m : PModule). nat_lt 256 (height M m.id 257) ≡ false) M.modules = each-fails (λ (m : PModule). nat_lt 256 (height M m.id 257)) M.modules tested in
      let each : All Low M.modules = λ k d within. at_most 256 (height M (get_or M.modules k d).id 257) (tests k d within) in
      walks-within M 256 (λ m.
      within-by_cases M m 257 256 (module_of M m) refl (λ x found.
      let same : height M x.id 257 ≡ height M m 257 = ap (λ (at : ModId). height M at 257) (id-of_found M m x found) in
      let low : height M x.id 257 ≤ 256 = All-find Low (λ (y : PModule). y.id.0 == m.0) M.modules x each found in
      omega (arith, same, low)))

pub within_tests : IsWithinByTests
within_tests M top sound = (
  λ within. (
    shallow M sound within.depth,
    not-past (length (occurrences M top)) 1000000 within.size,
    not-past (sum_by (λ (o : Occurrence). bits_of (module_of M o.1)) (occurrences M top)) 4000000 within.bits,
  ),
  λ tests. record {
    depth = short M sound tests.0;
    size = at_most 1000000 (length (occurrences M top)) tests.1;
    bits = at_most 4000000 (sum_by (λ (o : Occurrence). bits_of (module_of M o.1)) (occurrences M top)) tests.2;
  },
)
