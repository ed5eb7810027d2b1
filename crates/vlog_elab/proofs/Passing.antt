-- What follows where no check fails: of each item, and of each item of a walk.
use Rattle.std.proofs.Common.{arith, ◌≡◌, ℕ, zero, suc, [], ◌∷◌, ◌++◌, None, Some, Option, Bool, true, false, List, take, slice_get, refl, sym, ◌∙◌, ap, subst, cond, append_assoc}
use Rattle.std.specs.Prelude.{◌&&◌, ◌||◌, not}
use Rattle.std.specs.List.{flat_map, All}
use Rattle.std.proofs.lemmas.List.{append-nil}
use Rattle.std.specs.Option.{option_or}
use Rattle.vlog_elab.specs.declared.fault.ElabFault.{ElabFault}
use Rattle.flatten_rules.specs.Check.{first_broken, each_after}
use Rattle.flatten_rules.proofs.FirstBroken.{first_broken-append}
use Rattle.vlog_elab.specs.Check.{Check}
use Rattle.vlog_elab.specs.inside.Walk.{Walk, first_fault, at_end}
use Rattle.vlog_elab.proofs.Each.{all_none, all_cons}
use Rattle.vlog_elab.proofs.Walking.{first_fault-append, at_end-append}

-- Tests.

pub or_none : (a b : Bool) → a || b ≡ false → (a ≡ false) × (b ≡ false)
or_none true b h = absurd (cc h)
or_none false b h = (refl, h)

pub and_both : (a b : Bool) → a && b ≡ true → (a ≡ true) × (b ≡ true)
and_both true b h = (refl, h)
and_both false b h = absurd (cc h)

pub not_false : (b : Bool) → not b ≡ false → b ≡ true
not_false true h = refl
not_false false h = absurd (cc h)

-- Checks.

pub none_left : (a b : Option ElabFault) → option_or a b ≡ None → a ≡ None
none_left None b h = refl
none_left (Some f) b h = absurd (cc h)

pub none_right : (a b : Option ElabFault) → option_or a b ≡ None → b ≡ None
none_right None b h = h
none_right (Some f) b h = absurd (cc h)

pub both_none : (cs ds : List Check) → first_broken (cs ++ ds) ≡ None → (first_broken cs ≡ None) × (first_broken ds ≡ None)
both_none cs ds h =
    let both : option_or (first_broken cs) (first_broken ds) ≡ None = sym (first_broken-append cs ds) ∙ h in
    (none_left (first_broken cs) (first_broken ds) both, none_right (first_broken cs) (first_broken ds) both)

-- the first of some checks isn't broken, and those after it aren't
pub unbroken : (c : Check) (cs : List Check) → first_broken (c ∷ cs) ≡ None → (c.0 ≡ false) × (first_broken cs ≡ None)
unbroken c cs h = at_b c.0 h
  where
    at_b : (b : Bool) → cond b (Some c.1) (first_broken cs) ≡ None → (b ≡ false) × (first_broken cs ≡ None)
    at_b true h = absurd (cc h)
    at_b false h = (refl, h)

pub three_unbroken : (a b c : Check) → first_broken (a ∷ b ∷ c ∷ []) ≡ None → (a.0 ≡ false) × (b.0 ≡ false) × (c.0 ≡ false)
three_unbroken a b c h =
    let one = unbroken a (b ∷ c ∷ []) h in
    let two = unbroken b (c ∷ []) one.1 in
    (one.0, two.0, (unbroken c [] two.1).0)

pub flat_passes : {Y : Type 0} (f : Y → List Check) (ys : List Y) → first_broken (flat_map f ys) ≡ None → All (λ y. first_broken (f y) ≡ None) ys
flat_passes f [] h = all_none (λ y. first_broken (f y) ≡ None)
flat_passes f (y ∷ ys) h =
    let both = both_none (f y) (flat_map f ys) h in
    all_cons (λ y. first_broken (f y) ≡ None) y ys both.0 (flat_passes f ys both.1)

pub each_passes : {Y : Type 0} (f : List Y → Y → List Check) (P : Y → Type 0) → ((before : List Y) (y : Y) → first_broken (f before y) ≡ None → P y)
    → (before ys : List Y) → first_broken (each_after f before ys) ≡ None → All P ys
each_passes f P each before [] h = all_none P
each_passes f P each before (y ∷ ys) h =
    let both = both_none (f before y) (each_after f (before ++ y ∷ []) ys) h in
    all_cons P y ys (each before y both.0) (each_passes f P each (before ++ y ∷ []) ys both.1)

-- A walk from s on over these items meets no fault, and at its end E holds, which holds before a step where it does after it.
pub record Runs {S X : Type 0} (w : Walk S X) (E : S → Type 0) (s : S) (xs : List X) : Type 0 where
  pub none : first_fault w s xs ≡ None
  pub end : E (at_end w s xs)

pub at_start : {S X : Type 0} (w : Walk S X) (E : S → Type 0) → ((s : S) (x : X) → E (w.after s x) → E s) → (s : S) (xs : List X) → E (at_end w s xs) → E s
at_start w E back s [] h = h
at_start w E back s (x ∷ xs) h = back s x (at_start w E back (w.after s x) xs h)

pub run_parts : {S X : Type 0} (w : Walk S X) (E : S → Type 0) → ((s : S) (x : X) → E (w.after s x) → E s) → (s : S) (xs ys : List X)
    → Runs w E s (xs ++ ys) → Runs w E s xs × Runs w E (at_end w s xs) ys
run_parts w E back s xs ys r =
    let both : option_or (first_fault w s xs) (first_fault w (at_end w s xs) ys) ≡ None = sym (first_fault-append w s xs ys) ∙ r.none in
    let end : E (at_end w (at_end w s xs) ys) = subst E (at_end-append w s xs ys) r.end in (
      record { none = none_left (first_fault w s xs) (first_fault w (at_end w s xs) ys) both; end = at_start w E back (at_end w s xs) ys end },
      record { none = none_right (first_fault w s xs) (first_fault w (at_end w s xs) ys) both; end = end },
    )

-- one step of a walk
pub record Stands {S X : Type 0} (w : Walk S X) (E : S → Type 0) (s : S) (x : X) : Type 0 where
  pub passed : first_broken (w.checks s x) ≡ None
  pub after : E (w.after s x)

pub one_step : {S X : Type 0} (w : Walk S X) (E : S → Type 0) → ((s : S) (x : X) → E (w.after s x) → E s) → (s : S) (x : X) (xs : List X)
    → Runs w E s (x ∷ xs) → Stands w E s x × Runs w E (w.after s x) xs
one_step w E back s x xs r = (
  record { passed = none_left (first_broken (w.checks s x)) (first_fault w (w.after s x) xs) r.none; after = at_start w E back (w.after s x) xs r.end },
  record { none = none_right (first_broken (w.checks s x)) (first_fault w (w.after s x) xs) r.none; end = r.end },
)

-- what holds of each item by its step
pub run_each : {S X : Type 0} (w : Walk S X) (E : S → Type 0) → ((s : S) (x : X) → E (w.after s x) → E s) → (P : X → Type 0) → ((s : S) (x : X) → Stands w E s x → P x)
    → (s : S) (xs : List X) → Runs w E s xs → All P xs
run_each w E back P each s [] r = all_none P
run_each w E back P each s (x ∷ xs) r =
    let parts = one_step w E back s x xs r in
    all_cons P x xs (each s x parts.0) (run_each w E back P each (w.after s x) xs parts.1)

-- what holds of each item by the walk over its own items
pub run_flat : {S X Y : Type 0} (w : Walk S X) (E : S → Type 0) → ((s : S) (x : X) → E (w.after s x) → E s) → (f : Y → List X) (P : Y → Type 0) → ((s : S) (y : Y) → Runs w E s (f y) → P y)
    → (s : S) (ys : List Y) → Runs w E s (flat_map f ys) → All P ys
run_flat w E back f P each s [] r = all_none P
run_flat w E back f P each s (y ∷ ys) r =
    let parts = run_parts w E back s (f y) (flat_map f ys) r in
    all_cons P y ys (each s y parts.0) (run_flat w E back f P each (at_end w s (f y)) ys parts.1)

-- and where these depend on the items before it
pub run_after : {S X Y : Type 0} (w : Walk S X) (E : S → Type 0) → ((s : S) (x : X) → E (w.after s x) → E s) → (f : List Y → Y → List X) (P : List Y → Y → Type 0)
    → ((s : S) (before : List Y) (y : Y) → Runs w E s (f before y) → P before y)
    → (s : S) (before ys : List Y) → Runs w E s (each_after f before ys) → (k : ℕ) (y : Y) → slice_get ys k ≡ Some y → P (before ++ take k ys) y
run_after w E back f P each s before [] r k y at = absurd (cc at)
run_after {Y = Y} w E back f P each s before (x ∷ ys) r zero y at =
    let parts = run_parts w E back s (f before x) (each_after f (before ++ x ∷ []) ys) r in
    let same : x ≡ y = cc at in
    subst (λ (before : List Y). P before y) (sym (append-nil before)) (subst (P before) same (each s before x parts.0))
run_after {Y = Y} w E back f P each s before (x ∷ ys) r (suc k) y at =
    let parts = run_parts w E back s (f before x) (each_after f (before ++ x ∷ []) ys) r in
    subst (λ (before : List Y). P before y) (append_assoc before (x ∷ []) (take k ys)) (run_after w E back f P each (at_end w s (f before x)) (before ++ x ∷ []) ys parts.1 k y at)

-- what a walk keeps
pub keeps : {S X : Type 0} (w : Walk S X) (I : S → Type 0) → ((s : S) (x : X) → I s → first_broken (w.checks s x) ≡ None → I (w.after s x))
    → (s : S) (xs : List X) → I s → first_fault w s xs ≡ None → I (at_end w s xs)
keeps w I step s [] i h = i
keeps w I step s (x ∷ xs) i h =
    keeps w I step (w.after s x) xs (step s x i (none_left (first_broken (w.checks s x)) (first_fault w (w.after s x) xs) h))
    (none_right (first_broken (w.checks s x)) (first_fault w (w.after s x) xs) h)

-- a walk meets no fault where each step keeps what makes the next one pass
pub meets_none : {S X : Type 0} (w : Walk S X) (I : S → Type 0) (P : X → Type 0) → ((s : S) (x : X) → I s → P x → (first_broken (w.checks s x) ≡ None) × I (w.after s x))
    → (s : S) (xs : List X) → I s → All P xs → first_fault w s xs ≡ None
meets_none w I P step s [] i h = refl
meets_none w I P step s (x ∷ xs) i h =
    let here = step s x i (h zero x (omega arith)) in
    ap (λ o. option_or o (first_fault w (w.after s x) xs)) here.0 ∙ meets_none w I P step (w.after s x) xs here.1 (λ k d lt. h (suc k) d (omega arith))
