-- Keys of several numbers, compared number by number: when two of them are one.
use Rattle.std.proofs.Common.{◌≡◌, ℕ, ◌==◌, nat_lt, Bool, true, false, cond, ◌&&◌, refl, sym, arith, Ordering, Less, Equal, Greater, is_eq}
use Rattle.std.specs.Ordering.{nat_cmp, ordering_then}
use Rattle.std.proofs.lemmas.Bool.Decides.{nat_tests}

pub then-eq : (a b : Ordering) → is_eq (ordering_then a b) ≡ is_eq a && is_eq b
then-eq Less b = refl
then-eq Equal b = refl
then-eq Greater b = refl

tied : (less same : Bool) → (less ≡ true → same ≡ false) → is_eq (cond less Less (cond same Equal Greater)) ≡ same
tied true same never = sym (never refl)
tied false true never = refl
tied false false never = refl

pub tied-numbers : (a b : ℕ) → is_eq (nat_cmp a b) ≡ (a == b)
tied-numbers a b = tied (nat_lt a b) (a == b) (λ less. grind (arith, nat_tests))
