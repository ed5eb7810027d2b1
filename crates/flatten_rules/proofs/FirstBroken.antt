-- The first broken rule of two lists, and what is given for each item of two lists.
use Rattle.std.proofs.Common.{◌≡◌, Bool, true, false, cond, List, [], ◌∷◌, ◌++◌, Some, None, refl, sym, ap, ◌∙◌, append_assoc}
use Rattle.std.specs.Option.{option_or}
use Rattle.std.proofs.lemmas.List.{append-nil}
use Rattle.flatten_rules.specs.Check.{first_broken, each_after}

pub first_broken-append : {X : Type 0} (xs ys : List (Bool × X)) → first_broken (xs ++ ys) ≡ option_or (first_broken xs) (first_broken ys)
first_broken-append [] ys = refl
first_broken-append (x ∷ xs) ys =
    elim x.0 as (λ b. cond b (Some x.1) (first_broken (xs ++ ys)) ≡ option_or (cond b (Some x.1) (first_broken xs)) (first_broken ys)) [
      | true ↦ refl
      | false ↦ first_broken-append xs ys
    ]

-- where no rule of the first list is broken, it is that of the second
pub first_broken-kept : {X : Type 0} (xs ys : List (Bool × X)) → first_broken xs ≡ None → first_broken (xs ++ ys) ≡ first_broken ys
first_broken-kept xs ys none = first_broken-append xs ys ∙ ap (λ o. option_or o (first_broken ys)) none

-- where one is, it is that one
pub first_broken-broken : {X : Type 0} (xs ys : List (Bool × X)) (x : X) → first_broken xs ≡ Some x → first_broken (xs ++ ys) ≡ Some x
first_broken-broken xs ys x some = first_broken-append xs ys ∙ ap (λ o. option_or o (first_broken ys)) some

pub each_after-append : {X Y : Type 0} (f : List X → X → List Y) (before xs ys : List X) → each_after f before (xs ++ ys) ≡ each_after f before xs ++ each_after f (before ++ xs) ys
each_after-append f before [] ys = ap (λ before. each_after f before ys) (sym (append-nil before))
each_after-append f before (x ∷ xs) ys =
    ap (λ rest. f before x ++ rest) (each_after-append f (before ++ x ∷ []) xs ys)
    ∙ (rw (append_assoc before (x ∷ []) xs) (sym (append_assoc (f before x) (each_after f (before ++ x ∷ []) xs) (each_after f (before ++ x ∷ xs) ys))))
