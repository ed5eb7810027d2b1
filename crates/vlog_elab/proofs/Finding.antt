-- Names with values: which of them are found, and where.
use Rattle.std.proofs.Common.{arith, ◌≡◌, ◌≢◌, ℕ, zero, suc, ◌+◌, ◌<◌, ◌==◌, [], ◌∷◌, ◌++◌, None, Some, Option, Bool, true, false, IsSome, List, find, length, slice_get, is_some, refl, sym, ◌∙◌, ap, subst, cond, append_assoc, bytes_eq}
use Rattle.std.specs.List.{position_from, All, AllPairs}
use Rattle.std.specs.Option.{option_or}
use Rattle.std.proofs.lemmas.List.{append-nil}
use Rattle.std.proofs.lemmas.List.Elements.{All-push}
use Rattle.std.proofs.lemmas.List.Quantifiers.{all_pairs_push}
use Rattle.std.proofs.lemmas.Option.{slice_get_within, get_or_from_slice_get}
use Rattle.flatten_rules.proofs.Walks.{find-own}
use Rattle.vlog_elab.specs.Named.{Named, named, is_there, place_of, firsts, numbered}
use Rattle.vlog_elab.specs.inside.Walks.{with_new}
use Rattle.vlog_elab.proofs.Each.{all_none, all_cons, all_head, all_tail, pairs_none, pairs_head, pairs_tail, numbered_rise}
use Rattle.vlog_elab.proofs.Naming.{same_name, bytes_eq-refl, firsts-from_none}

-- what holds of each entry holds of a name and its value
pub all_named : {V : Type 0} (P : List ℕ × V → Type 0) (es : Named V) (q : List ℕ) (v : V) → All P es → named es q ≡ Some v → P (q, v)
all_named P [] q v all h = absurd (cc h)
all_named {V} P (e ∷ es) q v all h = at_b (λ h. all_named P es q v (all_tail P e es all) h) (bytes_eq q e.0) refl h
  where
    at_b : (named es q ≡ Some v → P (q, v)) → (b : Bool) → bytes_eq q e.0 ≡ b → cond b (Some e.1) (named es q) ≡ Some v → P (q, v)
    at_b rest true f h =
        let a : e.0 ≡ q = sym (same_name q e.0 f) in
        let b : e.1 ≡ v = cc h in
        subst (λ (v : V). P (q, v)) b (subst (λ (q : List ℕ). P (q, e.1)) a (all_head P e es all))
    at_b rest false f h = rest h

pub named_append : {V : Type 0} (es fs : Named V) (q : List ℕ) → named (es ++ fs) q ≡ option_or (named es q) (named fs q)
named_append [] fs q = refl
named_append (e ∷ es) fs q = elim (bytes_eq q e.0) as (λ b. cond b (Some e.1) (named (es ++ fs) q) ≡ option_or (cond b (Some e.1) (named es q)) (named fs q)) [ true ↦ refl | false ↦ named_append es fs q ]

pub named_kept : {V : Type 0} (es fs : Named V) (q : List ℕ) (v : V) → named es q ≡ Some v → named (es ++ fs) q ≡ Some v
named_kept es fs q v h = named_append es fs q ∙ ap (λ o. option_or o (named fs q)) h

-- an entry whose name is there before isn't found
named_skip : {V : Type 0} (es fs : Named V) (f : List ℕ × V) (q : List ℕ) → is_there es f.0 ≡ true → named (es ++ f ∷ fs) q ≡ named (es ++ fs) q
named_skip {V} es fs f q there = named_append es (f ∷ fs) q ∙ at_o (named es q) refl (bytes_eq q f.0) refl ∙ sym (named_append es fs q)
  where
    at_o : (o : Option V) → named es q ≡ o → (b : Bool) → bytes_eq q f.0 ≡ b → option_or o (cond b (Some f.1) (named fs q)) ≡ option_or o (named fs q)
    at_o (Some v) e b g = refl
    at_o None e false g = refl
    at_o None e true g =
        let same : q ≡ f.0 = same_name q f.0 g in
        let none : is_there es f.0 ≡ false = subst (λ (q : List ℕ). is_there es q ≡ false) same (ap is_some e) in
        let no : true ≡ false = sym there ∙ none in
        absurd (cc no)

-- the first of each name are found as all are
pub named_with_new : {V : Type 0} (es fs : Named V) (q : List ℕ) → named (with_new es fs) q ≡ named (es ++ fs) q
named_with_new es [] q = ap (λ es. named es q) (sym (append-nil es))
named_with_new {V} es (f ∷ fs) q = named_with_new (cond (is_there es f.0) es (es ++ f ∷ [])) fs q ∙ at_b (is_there es f.0) refl
  where
    at_b : (b : Bool) → is_there es f.0 ≡ b → named (cond b es (es ++ f ∷ []) ++ fs) q ≡ named (es ++ f ∷ fs) q
    at_b true h = sym (named_skip es fs f q h)
    at_b false h = ap (λ es. named es q) (append_assoc es (f ∷ []) fs)

pub named_firsts : {V : Type 0} (es : Named V) (q : List ℕ) → named (firsts es) q ≡ named es q
named_firsts es q = ap (λ es. named es q) (sym (firsts-from_none es)) ∙ named_with_new [] es q

-- what holds of each entry holds of the first of each name
pub all_with_new : {V : Type 0} (P : List ℕ × V → Type 0) (es fs : Named V) → All P es → All P fs → All P (with_new es fs)
all_with_new P es [] a b = a
all_with_new P es (f ∷ fs) a b = all_with_new P (cond (is_there es f.0) es (es ++ f ∷ [])) fs (at_b (is_there es f.0)) (all_tail P f fs b)
  where
    at_b : (b : Bool) → All P (cond b es (es ++ f ∷ []))
    at_b true = a
    at_b false = All-push P es f a (all_head P f fs b)

pub all_firsts : {V : Type 0} (P : List ℕ × V → Type 0) (es : Named V) → All P es → All P (firsts es)
all_firsts {V} P es h = subst (λ (es : Named V). All P es) (firsts-from_none es) (all_with_new P [] es (all_none P) h)

-- a name that isn't there is none of the names
pub none_named : {V : Type 0} (es : Named V) (q : List ℕ) → is_there es q ≡ false → All (λ (e : List ℕ × V). e.0 ≢ q) es
none_named {V} [] q h = all_none (λ (e : List ℕ × V). e.0 ≢ q)
none_named {V} (e ∷ es) q h = at_b (λ h. none_named es q h) (bytes_eq q e.0) refl h
  where
    at_b : (is_there es q ≡ false → All (λ (e : List ℕ × V). e.0 ≢ q) es) → (b : Bool) → bytes_eq q e.0 ≡ b → is_some (cond b (Some e.1) (named es q)) ≡ false → All (λ (e : List ℕ × V). e.0 ≢ q) (e ∷ es)
    at_b rest true f h = absurd (cc h)
    at_b rest false f h =
        let other : e.0 ≢ q = λ same. let yes : bytes_eq q e.0 ≡ true = rw same (bytes_eq-refl q) in let no : true ≡ false = sym yes ∙ f in absurd (cc no) in
        all_cons (λ (e : List ℕ × V). e.0 ≢ q) e es other (rest h)

abbrev pub Differ : {V : Type 0} → List ℕ × V → List ℕ × V → Type 0
Differ a b = a.0 ≢ b.0

-- one more name that isn't there
pub apart_push : {V : Type 0} (es : Named V) (e : List ℕ × V) → AllPairs Differ es → is_there es e.0 ≡ false → AllPairs Differ (es ++ e ∷ [])
apart_push {V} es e apart none = all_pairs_push Differ es e apart (none_named es e.0 none)

-- the first of each name have names that differ
with_new_apart : {V : Type 0} (es fs : Named V) → AllPairs Differ es → AllPairs Differ (with_new es fs)
with_new_apart es [] h = h
with_new_apart {V} es (f ∷ fs) h = with_new_apart (cond (is_there es f.0) es (es ++ f ∷ [])) fs (at_b (is_there es f.0) refl)
  where
    at_b : (b : Bool) → is_there es f.0 ≡ b → AllPairs (Differ {V = V}) (cond b es (es ++ f ∷ []))
    at_b true e = h
    at_b false e = apart_push es f h e

pub firsts_apart : {V : Type 0} (es : Named V) → AllPairs Differ (firsts es)
firsts_apart {V} es = subst (λ (es : Named V). AllPairs Differ es) (firsts-from_none es) (with_new_apart [] es (pairs_none Differ))

-- where a name is found
place_from : {V : Type 0} (n : ℕ) (es : Named V) (q : List ℕ) (v : V) → named es q ≡ Some v
    → (k : ℕ) × (position_from (λ (e : List ℕ × V). bytes_eq q e.0) n es ≡ Some (n + k)) × (slice_get es k ≡ Some (q, v))
place_from n [] q v h = absurd (cc h)
place_from {V} n (e ∷ es) q v h = at_b (λ h. place_from (n + 1) es q v h) (bytes_eq q e.0) refl h
  where
    at_b : (named es q ≡ Some v → (k : ℕ) × (position_from (λ (e : List ℕ × V). bytes_eq q e.0) (n + 1) es ≡ Some (n + 1 + k)) × (slice_get es k ≡ Some (q, v)))
        → (b : Bool) → bytes_eq q e.0 ≡ b → cond b (Some e.1) (named es q) ≡ Some v
        → (k : ℕ) × (cond b (Some n) (position_from (λ (e : List ℕ × V). bytes_eq q e.0) (n + 1) es) ≡ Some (n + k)) × (slice_get (e ∷ es) k ≡ Some (q, v))
    at_b rest true f h =
        let a : e.0 ≡ q = sym (same_name q e.0 f) in
        let b : e.1 ≡ v = cc h in
        let none : n ≡ n + 0 = omega arith in
        (0, ap Some none, subst (λ (q : List ℕ). Some e ≡ Some (q, v)) a (ap (λ (v : V). Some (e.0, v)) b))
    at_b rest false f h =
        let more = rest h in
        let next : n + 1 + more.0 ≡ n + suc more.0 = omega arith in
        (suc more.0, more.1 ∙ ap Some next, more.2)

pub place_named : {V : Type 0} (es : Named V) (q : List ℕ) (v : V) → named es q ≡ Some v → (k : ℕ) × (place_of es q ≡ Some k) × (slice_get es k ≡ Some (q, v))
place_named es q v h =
    let at = place_from 0 es q v h in
    let none : 0 + at.0 ≡ at.0 = omega arith in
    (at.0, at.1 ∙ ap Some none, at.2)

-- names that differ are found at their own places
own_from : {V : Type 0} (n : ℕ) (es : Named V) (k : ℕ) (e : List ℕ × V) → AllPairs Differ es → slice_get es k ≡ Some e
    → (position_from (λ (f : List ℕ × V). bytes_eq e.0 f.0) n es ≡ Some (n + k)) × (named es e.0 ≡ Some e.1)
own_from n [] k e apart at = absurd (cc at)
own_from {V} n (f ∷ es) zero e apart at =
    let same : f ≡ e = cc at in
    let yes : bytes_eq e.0 f.0 ≡ true = rw same (bytes_eq-refl e.0) in
    let none : n ≡ n + 0 = omega arith in (
      ap (λ b. cond b (Some n) (position_from (λ (f : List ℕ × V). bytes_eq e.0 f.0) (n + 1) es)) yes ∙ ap Some none,
      ap (λ b. cond b (Some f.1) (named es e.0)) yes ∙ ap (λ (f : List ℕ × V). Some f.1) same,
    )
own_from {V} n (f ∷ es) (suc k) e apart at =
    let rest = own_from (n + 1) es k e (pairs_tail Differ f es apart) at in
    let other : f.0 ≢ e.0 = subst (λ (g : List ℕ × V). f.0 ≢ g.0) (get_or_from_slice_get es k e e at) (pairs_head Differ f es apart k e (slice_get_within es k e at)) in
    let no : bytes_eq e.0 f.0 ≡ false = at_b (bytes_eq e.0 f.0) refl other in
    let next : n + 1 + k ≡ n + suc k = omega arith in (
      ap (λ b. cond b (Some n) (position_from (λ (f : List ℕ × V). bytes_eq e.0 f.0) (n + 1) es)) no ∙ rest.0 ∙ ap Some next,
      ap (λ b. cond b (Some f.1) (named es e.0)) no ∙ rest.1,
    )
  where
    at_b : (b : Bool) → bytes_eq e.0 f.0 ≡ b → f.0 ≢ e.0 → b ≡ false
    at_b true h other = absurd (other (sym (same_name e.0 f.0 h)))
    at_b false h other = refl

pub own_place : {V : Type 0} (es : Named V) (k : ℕ) (e : List ℕ × V) → AllPairs Differ es → slice_get es k ≡ Some e → place_of es e.0 ≡ Some k
own_place es k e apart at = let none : 0 + k ≡ k = omega arith in (own_from 0 es k e apart at).0 ∙ ap Some none

pub own_value : {V : Type 0} (es : Named V) (k : ℕ) (e : List ℕ × V) → AllPairs Differ es → slice_get es k ≡ Some e → named es e.0 ≡ Some e.1
own_value es k e apart at = (own_from 0 es k e apart at).1

-- an item that passes is found, or one before it
pub find_there : {X : Type 0} (p : X → Bool) (xs : List X) (k : ℕ) (x : X) → slice_get xs k ≡ Some x → p x ≡ true → IsSome (find p xs)
find_there p [] k x at passes = absurd (cc at)
find_there {X} p (y ∷ xs) zero x at passes = let same : y ≡ x = cc at in let here : p y ≡ true = ap p same ∙ passes in rw here refl
find_there {X} p (y ∷ xs) (suc k) x at passes = elim (p y) as (λ b. is_some (cond b (Some y) (find p xs)) ≡ true) [ true ↦ refl | false ↦ find_there p xs k x at passes ]

-- what is made of the item at a place, with its number
pub numbered_at : {X Y : Type 0} (make : ℕ → X → Y) (n : ℕ) (xs : List X) (k : ℕ) (x : X) → slice_get xs k ≡ Some x → slice_get (numbered make n xs) k ≡ Some (make (n + k) x)
numbered_at make n [] k x at = absurd (cc at)
numbered_at make n (y ∷ xs) zero x at = let same : y ≡ x = cc at in let none : n ≡ n + 0 = omega arith in ap (λ y. Some (make n y)) same ∙ ap (λ n. Some (make n x)) none
numbered_at make n (y ∷ xs) (suc k) x at = let next : n + 1 + k ≡ n + suc k = omega arith in numbered_at make (n + 1) xs k x at ∙ ap (λ n. Some (make n x)) next

-- and it is found by its number
pub found_by_number : {X Y : Type 0} (number : Y → ℕ) (make : ℕ → X → Y) → ((n : ℕ) (x : X) → number (make n x) ≡ n) → (xs : List X) (k : ℕ) (x : X) → slice_get xs k ≡ Some x
    → find (λ y. number y == k) (numbered make 0 xs) ≡ Some (make k x)
found_by_number {X} {Y} number make is xs k x at =
    let ys : List Y = numbered make 0 xs in
    let none : 0 + k ≡ k = omega arith in
    let here : slice_get ys k ≡ Some (make k x) = numbered_at make 0 xs k x at ∙ ap (λ n. Some (make n x)) none in
    let within : k < length ys = slice_get_within ys k (make k x) here in
    let found : find (λ y. number y == number (make k x)) ys ≡ Some (make k x)
    = subst (λ (z : Y). find (λ y. number y == number z) ys ≡ Some z) (get_or_from_slice_get ys k (make k x) (make k x) here) (find-own number ys (numbered_rise number make is 0 xs) k (make k x) within) in
    subst (λ (n : ℕ). find (λ y. number y == n) ys ≡ Some (make k x)) (is k x) found
