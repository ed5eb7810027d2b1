-- What the first broken rule of two lists is.
use Rattle.std.proofs.Common.{◌≡◌, ℕ, ◌+◌, ◌<◌, ◌≤◌, Bool, true, false, cond, List, [], ◌∷◌, ◌++◌, length, get_or, drop, Option, Some, None, Result, Ok, Err, refl, sym, ap, ◌∙◌, add-one}
use Rattle.std.specs.List.{flat_map}
use Rattle.std.proofs.Math.Seq.{drop-cons}
use Rattle.std.proofs.Math.ListN.{drop_of_length-le}
use Rattle.emh_base.specs.declared.rule.Refusal.{Refusal}
use Rattle.edit_rules.specs.declared.judged.Judged.{Judged}
use Rattle.edit_rules.specs.declared.judged.Judged.TheVariants.{Rule, NoMemory}
use Rattle.edit_rules.specs.Judged.{Looks}
use Rattle.flatten_rules.specs.Check.{first_broken}
use Rattle.flatten_rules.proofs.FirstBroken.{first_broken-kept, first_broken-broken}
use Rattle.edit_rules.specs.Check.{Check}

module _ {X : Type 0} (f : X → List Check) (xs : List X) (i : ℕ) (d : X) (within : i < length xs) where
  now : flat_map f (drop i xs) ≡ f (get_or xs i d) ++ flat_map f (drop (i + 1) xs)
  now = rw (drop-cons xs i d within, add-one i) refl

  -- none of the rules of one item is broken
  pub flat_map-kept : first_broken (f (get_or xs i d)) ≡ None → first_broken (flat_map f (drop (i + 1) xs)) ≡ first_broken (flat_map f (drop i xs))
  flat_map-kept none = sym (ap first_broken now ∙ first_broken-kept (f (get_or xs i d)) (flat_map f (drop (i + 1) xs)) none)

  -- one of the rules of one item is broken
  pub flat_map-broken : (r : Refusal) → first_broken (f (get_or xs i d)) ≡ Some r → first_broken (flat_map f (drop i xs)) ≡ Some r
  flat_map-broken r some = ap first_broken now ∙ first_broken-broken (f (get_or xs i d)) (flat_map f (drop (i + 1) xs)) r some

pub flat_map-past : {X : Type 0} (f : X → List Check) (xs : List X) (i : ℕ) → length xs ≤ i → first_broken (flat_map f (drop i xs)) ≡ None
flat_map-past f xs i past = rw (drop_of_length-le xs past) refl

-- what is told of some rules is told of others
pub looks_err-by : (X Y : Type 0) (xs ys : List Check) → ((r : Refusal) → first_broken xs ≡ Some r → first_broken ys ≡ Some r) → (e : Judged) → Looks {X = X} xs (Err e) → Looks {X = Y} ys (Err e)
looks_err-by X Y xs ys more (Rule r) told = more r told
looks_err-by X Y xs ys more NoMemory told = tt

-- rules that are looked at after some that are kept
pub looks-after : {X : Type 0} (xs ys : List Check) (result : Result X Judged) → first_broken xs ≡ None → Looks ys result → Looks (xs ++ ys) result
looks-after xs ys (Ok v) none told = first_broken-kept xs ys none ∙ told
looks-after xs ys (Err (Rule r)) none told = first_broken-kept xs ys none ∙ told
looks-after xs ys (Err NoMemory) none told = tt
