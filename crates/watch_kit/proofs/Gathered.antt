-- Lists that are gathered one item after the other.
use Rattle.std.proofs.Common.{◌≡◌, ℕ, ◌+◌, ◌==◌, ◌<◌, Bool, true, false, not, ◌||◌, ◌&&◌, cond, List, [], ◌∷◌, ◌++◌, map, filter, take, get_or, length, refl, sym, ap, ◌∙◌, arith}
use Rattle.std.specs.List.{list_any}
use Rattle.std.proofs.lemmas.Bool.Decides.{nat_tests}
use Rattle.std.proofs.lemmas.List.{take_more, map-append}
use Rattle.std.proofs.lemmas.List.Elements.{filter-append}
use Rattle.std.proofs.lemmas.Map.Views.{any-filter_same}
use Rattle.emh_base.specs.declared.ids.NetId.{NetId}
use Rattle.watch_kit.specs.NetBits.{once}
use Rattle.watch_kit.specs.Sweep.{same_net}

-- what passes a test, item by item
kept-last : {X Y : Type 0} (f : X → Y) (p : X → Bool) (x : X) (t : Bool) → t ≡ p x → map f (filter p (x ∷ [])) ≡ cond t (f x ∷ []) []
kept-last f p x t is = ap (λ (b : Bool). map f (cond b (x ∷ []) [])) (sym is) ∙ by_cases t
  where
    by_cases : (b : Bool) → map f (cond b (x ∷ []) []) ≡ cond b (f x ∷ []) []
    by_cases true = refl
    by_cases false = refl

pub kept-more : {X Y : Type 0} (f : X → Y) (p : X → Bool) (xs : List X) (i : ℕ) (d : X) (now new : List Y) → i < length xs → now ≡ map f (filter p (take i xs))
    → new ≡ now ++ cond (p (get_or xs i d)) (f (get_or xs i d) ∷ []) [] → new ≡ map f (filter p (take (i + 1) xs))
kept-more {X} {Y} f p xs i d now new within at push =
    let x : X = get_or xs i d in
    push ∙ ap (λ (l : List Y). l ++ cond (p x) (f x ∷ []) []) at
    ∙ sym (
    ap (λ (l : List X). map f (filter p l)) (take_more xs i d within)
    ∙ ap (map f) (filter-append p (take i xs) (x ∷ []))
    ∙ map-append f (filter p (take i xs)) (filter p (x ∷ []))
    ∙ ap (λ (l : List Y). map f (filter p (take i xs)) ++ l) (kept-last f p x (p x) refl))

-- each once, item by item

module _ {X : Type 0} (same : X → X → Bool) (alike : (y x k : X) → same k x ≡ true → not (same y k) ≡ not (same y x)) where
  last-by : (p : X → Bool) (x : X) (s t u : Bool) → p x ≡ not s → u ≡ (not s && t) → filter p (cond t [] (x ∷ [])) ≡ cond (s || u) [] (x ∷ [])
  last-by p x true true u passes is = refl
  last-by p x true false u passes is = ap (λ (b : Bool). cond b (x ∷ []) []) passes
  last-by p x false true u passes is = sym (ap (λ (b : Bool). cond b [] (x ∷ [])) is)
  last-by p x false false u passes is = ap (λ (b : Bool). cond b (x ∷ []) []) passes ∙ sym (ap (λ (b : Bool). cond b [] (x ∷ [])) is)

  pub once-last : (xs : List X) (x : X)
      → once same (xs ++ x ∷ []) ≡ once same xs ++ cond (list_any (λ y. same y x) (once same xs)) [] (x ∷ [])
  once-last [] x = refl
  once-last (y ∷ ys) x =
      let zs : List X = once same ys in
      let other : X → Bool = λ z. not (same y z) in
      let test : X → Bool = λ z. same z x in
      ap (λ (l : List X). y ∷ filter other l) (once-last ys x)
      ∙ ap (λ (l : List X). y ∷ l) (filter-append other zs (cond (list_any test zs) [] (x ∷ [])))
      ∙ ap (λ (l : List X). y ∷ (filter other zs ++ l))
      (last-by other x (same y x) (list_any test zs) (list_any test (filter other zs)) refl (any-filter_same test other (not (same y x)) (alike y x) zs))

alike_nets : (y x k : NetId) → same_net k x ≡ true → not (same_net y k) ≡ not (same_net y x)
alike_nets y x k same = by_numbers y.0 x.0 k.0 same
  where
    by_numbers : (a b c : ℕ) → (c == b) ≡ true → not (a == c) ≡ not (a == b)
    by_numbers a b c e = let is : c ≡ b = grind (arith, nat_tests) in ap (λ n. not (a == n)) is

pub once-more : (xs : List NetId) (i : ℕ) (d : NetId) (now new : List NetId) → i < length xs → now ≡ once same_net (take i xs)
    → new ≡ now ++ cond (list_any (λ y. same_net y (get_or xs i d)) now) [] (get_or xs i d ∷ []) → new ≡ once same_net (take (i + 1) xs)
once-more xs i d now new within at push =
    let x : NetId = get_or xs i d in
    push ∙ ap (λ (l : List NetId). l ++ cond (list_any (λ y. same_net y x) l) [] (x ∷ [])) at
    ∙ sym (ap (once same_net) (take_more xs i d within) ∙ once-last same_net alike_nets (take i xs) x)
