-- Names with values: what is found after one more, and where.
use Rattle.std.proofs.Common.{arith, ◌≡◌, ℕ, suc, ◌+◌, ◌-◌, ◌<◌, ◌≤◌, [], ◌∷◌, ◌++◌, None, Some, Option, Bool, true, false, List, Bor, length, slice_get, is_some, refl, sym, ◌∙◌, ap, cond, append_assoc}
use Rattle.std.specs.List.{position, position_from}
use Rattle.std.specs.Option.{option_map}
use Rattle.std.specs.Map.{lookup}
use Rattle.std.specs.Str.{bytes_eq}
use Rattle.std.proofs.lemmas.Slice.Eq.{bytes_eq-Decides}
use Rattle.std.proofs.lemmas.Grind.{common_steps}
use Rattle.std.specs.Prelude.{◌||◌, not, if◌then◌else◌}
use Rattle.std.proofs.Math.Bool.{or_assoc}
use Rattle.std.proofs.lemmas.List.{append-nil}
use Rattle.std.proofs.lemmas.Iterator.Adapters.{position_from-zero}
use Rattle.std.proofs.lemmas.Bool.Decides.{same_from_decides}
use Rattle.std.specs.Bool.{Decides}
use Rattle.flatten_rules.specs.Check.{each_after}
use Rattle.flatten_rules.proofs.FirstBroken.{each_after-append}
use Rattle.vlog_elab.specs.Named.{Named, place_of, named, is_there, firsts}
use Rattle.vlog_elab.specs.inside.Walks.{with_new}
use Rattle.vlog_elab.specs.inside.Agree.{texts}

-- the place of the first that passes, after one more at the end
pub position_from-push : {X : Type 0} (t : X → Bool) (n : ℕ) (xs : List X) (x : X)
    → position_from t n (xs ++ x ∷ []) ≡ cond (is_some (position_from t n xs)) (position_from t n xs) (cond (t x) (Some (n + length xs)) None)
position_from-push t n [] x = grind arith
position_from-push t n (y ∷ xs) x = elim (t y) as (λ b. cond b (Some n) (position_from t (n + 1) (xs ++ x ∷ [])) ≡ cond (is_some (cond b (Some n) (position_from t (n + 1) xs))) (cond b (Some n) (position_from t (n + 1) xs)) (cond (t x) (Some (n + length (y ∷ xs))) None)) [
  | true ↦ refl
  | false ↦ let ih = position_from-push t (n + 1) xs x in let e : n + 1 + length xs ≡ n + length (y ∷ xs) = grind arith in rw (← e) ih
]

-- a name is there where it has a place
pub is_there-place : {V : Type 0} (n : ℕ) (q : List ℕ) (es : List (List ℕ × V)) → is_some (lookup (bytes_eq q) es) ≡ is_some (position_from (λ e. bytes_eq q e.0) n es)
is_there-place n q [] = refl
is_there-place n q (e ∷ es) = elim (bytes_eq q e.0) as (λ b. is_some (cond b (Some e.1) (lookup (bytes_eq q) es)) ≡ is_some (cond b (Some n) (position_from (λ e. bytes_eq q e.0) (n + 1) es))) [ true ↦ refl | false ↦ is_there-place (n + 1) q es ]

-- the value at the place of a name
pub value-at_place : {V : Type 0} (n k : ℕ) (q : List ℕ) (es : List (List ℕ × V)) → position_from (λ e. bytes_eq q e.0) n es ≡ Some k → (n ≤ k) × (option_map (λ e. e.1) (slice_get es (k - n)) ≡ lookup (bytes_eq q) es)
value-at_place n k q [] h = absurd (cc h)
value-at_place {V} n k q (e ∷ es) h = at_b (λ h. value-at_place (n + 1) k q es h) (bytes_eq q e.0) refl h
  where
    at_b : (position_from (λ e. bytes_eq q e.0) (n + 1) es ≡ Some k → (n + 1 ≤ k) × (option_map (λ (e : List ℕ × V). e.1) (slice_get es (k - (n + 1))) ≡ lookup (bytes_eq q) es))
        → (b : Bool) → bytes_eq q e.0 ≡ b → cond b (Some n) (position_from (λ e. bytes_eq q e.0) (n + 1) es) ≡ Some k → (n ≤ k) × (option_map (λ (e : List ℕ × V). e.1) (slice_get (e ∷ es) (k - n)) ≡ cond b (Some e.1) (lookup (bytes_eq q) es))
    at_b more true f h = let same : n ≡ k = cc h in let none : k - n ≡ 0 = omega arith in (omega arith, rw none refl)
    at_b more false f h =
        let ih = more h in
        let some : k - n ≡ suc (k - (n + 1)) = omega arith in
        (omega arith, rw some ih.1)

pub value-at : {V : Type 0} (k : ℕ) (q : List ℕ) (es : List (List ℕ × V)) → place_of es q ≡ Some k → option_map (λ e. e.1) (slice_get es k) ≡ lookup (bytes_eq q) es
value-at k q es h = let same : k - 0 ≡ k = omega arith in rw same at (value-at_place 0 k q es h).1

pub place-None : {V : Type 0} (q : List ℕ) (es : List (List ℕ × V)) → is_there es q ≡ false → place_of es q ≡ None
place-None q es h = at_o (place_of es q) (sym (is_there-place 0 q es) ∙ h)
  where
    at_o : (o : Option ℕ) → is_some o ≡ false → o ≡ None
    at_o None h = refl
    at_o (Some x) h = absurd (cc h)

pub texts-push : {V : Type 0} (es : List (Bor (List ℕ) × V)) (e : Bor (List ℕ) × V) → texts (es ++ e ∷ []) ≡ texts es ++ (e.0.now, e.1) ∷ []
texts-push es e = grind (arith, common_steps)

pub bytes_eq-sym : (a b : List ℕ) → bytes_eq a b ≡ bytes_eq b a
bytes_eq-sym a b = same_from_decides _ _ (bytes_eq-Decides a b) (decides_sym (bytes_eq-Decides b a))
  where
    decides_sym : {r : Bool} → Decides r (b ≡ a) → Decides r (a ≡ b)
    decides_sym d = grind arith

pub place-found : (o : Option ℕ) (a : Option ℕ) → is_some o ≡ true → cond (is_some o) o a ≡ o
place-found (Some x) a h = refl
place-found None a h = absurd (cc h)

pub place-kept : (o : Option ℕ) → cond (is_some o) o None ≡ o
place-kept (Some x) = refl
place-kept None = refl

pub bytes_eq-refl : (a : List ℕ) → bytes_eq a a ≡ true
bytes_eq-refl a = grind (arith, bytes_eq-Decides)

pub same_name : (a b : List ℕ) → bytes_eq a b ≡ true → a ≡ b
same_name a b h = grind (arith, bytes_eq-Decides)

-- looking through the entries
place-texts : {V : Type 0} (n : ℕ) (q : List ℕ) (es : List (Bor (List ℕ) × V)) → position_from (λ e. bytes_eq q e.0.now) n es ≡ position_from (λ e. bytes_eq q e.0) n (texts es)
place-texts n q [] = refl
place-texts n q (e ∷ es) = elim (bytes_eq q e.0.now) as (λ b. cond b (Some n) (position_from (λ e. bytes_eq q e.0.now) (n + 1) es) ≡ cond b (Some n) (position_from (λ e. bytes_eq q e.0) (n + 1) (texts es))) [ true ↦ refl | false ↦ place-texts (n + 1) q es ]

pub position-place : {V : Type 0} (q : List ℕ) (es : List (Bor (List ℕ) × V)) → position (λ e. bytes_eq q e.0.now) es ≡ place_of (texts es) q
position-place q es = position_from-zero (λ e. bytes_eq q e.0.now) es ∙ place-texts 0 q es

-- a new name is pushed
pub new-pushed : {V : Type 0} (es : List (List ℕ × V)) (e : List ℕ × V) → true ≡ not (is_there es e.0) → with_new es (e ∷ []) ≡ es ++ e ∷ []
new-pushed {V} es e h = at_b (is_there es e.0) h
  where
    at_b : (b : Bool) → true ≡ not b → cond b es (es ++ e ∷ []) ≡ es ++ e ∷ []
    at_b false h = refl
    at_b true h = absurd (cc h)

-- a name without a place isn't there
pub there-None : {V : Type 0} (q : List ℕ) (es : List (List ℕ × V)) → place_of es q ≡ None → named es q ≡ None
there-None {V} q es h = at_o (named es q) (is_there-place 0 q es ∙ ap is_some h)
  where
    at_o : (o : Option V) → is_some o ≡ false → o ≡ None
    at_o None h = refl
    at_o (Some x) h = absurd (cc h)

-- Tests.

pub or-false : (b : Bool) → (b || false) ≡ b
or-false true = refl
or-false false = refl

pub one_or_not : (p e r h : Bool) → (h ≡ true → e ≡ true → p ≡ true) → (p || cond h r (e || r)) ≡ ((p || e) || r)
one_or_not p e r false f = sym (or_assoc p e r)
one_or_not p false r true f = rw (or-false p) refl
one_or_not p true r true f = rw (f refl refl) refl

pub there-append : {V : Type 0} (es fs : List (List ℕ × V)) (q : List ℕ) → is_there (es ++ fs) q ≡ (is_there es q || is_there fs q)
there-append [] fs q = refl
there-append (e ∷ es) fs q = elim (bytes_eq q e.0) as (λ b. is_some (cond b (Some e.1) (named (es ++ fs) q)) ≡ (is_some (cond b (Some e.1) (named es q)) || is_there fs q)) [ true ↦ refl | false ↦ there-append es fs q ]

pub there-one : {V : Type 0} (e : List ℕ × V) (q : List ℕ) → is_there (e ∷ []) q ≡ bytes_eq q e.0
there-one e q = elim (bytes_eq q e.0) as (λ b. is_some (cond b (Some e.1) None) ≡ b) [ true ↦ refl | false ↦ refl ]

there-one_or_not : {V : Type 0} (h : Bool) (e : List ℕ × V) (es : List (List ℕ × V)) (q : List ℕ) → is_there (cond h [] (e ∷ []) ++ es) q ≡ cond h (is_there es q) (bytes_eq q e.0 || is_there es q)
there-one_or_not true e es q = refl
there-one_or_not false e es q = there-append (e ∷ []) es q ∙ ap (λ b. b || is_there es q) (there-one e q)

-- The first of each name.

-- a name is there where it is there before, or is among the first of those that follow
firsts-there_after : {V : Type 0} (before es : List (List ℕ × V)) (q : List ℕ)
    → (is_there before q || is_there (each_after (λ before (e : List ℕ × V). if is_there before e.0 then [] else e ∷ []) before es) q) ≡ is_there (before ++ es) q
firsts-there_after before [] q = or-false (is_there before q) ∙ ap (λ es. is_there es q) (sym (append-nil before))
firsts-there_after {V} before (e ∷ es) q =
    let rest : List (List ℕ × V) = each_after (λ before (e : List ℕ × V). if is_there before e.0 then [] else e ∷ []) (before ++ e ∷ []) es in
    let known_before : is_there before e.0 ≡ true → bytes_eq q e.0 ≡ true → is_there before q ≡ true
    = λ h f. let same : q ≡ e.0 = same_name q e.0 f in (rw same h) in
    ap (λ b. is_there before q || b) (there-one_or_not (is_there before e.0) e rest q)
    ∙ one_or_not (is_there before q) (bytes_eq q e.0) (is_there rest q) (is_there before e.0) known_before
    ∙ ap (λ b. b || is_there rest q) (sym (there-append before (e ∷ []) q ∙ ap (λ b. is_there before q || b) (there-one e q)))
    ∙ firsts-there_after (before ++ e ∷ []) es q
    ∙ ap (λ es. is_there es q) (append_assoc before (e ∷ []) es)

pub firsts-there : {V : Type 0} (es : List (List ℕ × V)) (q : List ℕ) → is_there (firsts es) q ≡ is_there es q
firsts-there es q = firsts-there_after [] es q

-- one more goes last where its name is new
pub firsts-push : {V : Type 0} (es : List (List ℕ × V)) (e : List ℕ × V) → firsts (es ++ e ∷ []) ≡ (if is_there (firsts es) e.0 then firsts es else firsts es ++ e ∷ [])
firsts-push {V} es e =
    each_after-append (λ before (e : List ℕ × V). if is_there before e.0 then [] else e ∷ []) [] es (e ∷ [])
    ∙ ap (λ rest. firsts es ++ rest) (append-nil (if is_there es e.0 then [] else e ∷ []))
    ∙ at_h (is_there es e.0)
    ∙ ap (λ (h : Bool). cond h (firsts es) (firsts es ++ e ∷ [])) (sym (firsts-there es e.0))
  where
    at_h : (h : Bool) → firsts es ++ cond h [] (e ∷ []) ≡ cond h (firsts es) (firsts es ++ e ∷ [])
    at_h true = append-nil (firsts es)
    at_h false = refl

pub firsts-append : {V : Type 0} (es fs : List (List ℕ × V)) → firsts (es ++ fs) ≡ with_new (firsts es) fs
firsts-append es [] = ap firsts (append-nil es)
firsts-append es (f ∷ fs) =
    ap firsts (sym (append_assoc es (f ∷ []) fs)) ∙ firsts-append (es ++ f ∷ []) fs ∙ ap (λ es. with_new es fs) (firsts-push es f)

-- and from nothing on
pub firsts-from_none : {V : Type 0} (es : Named V) → with_new [] es ≡ firsts es
firsts-from_none es = sym (firsts-append [] es)

-- Places in joined lists.

pub position_from-append : {X : Type 0} (t : X → Bool) (n : ℕ) (xs ys : List X)
    → position_from t n (xs ++ ys) ≡ cond (is_some (position_from t n xs)) (position_from t n xs) (position_from t (n + length xs) ys)
position_from-append t n [] ys = let none : n + 0 ≡ n = omega arith in rw none refl
position_from-append t n (x ∷ xs) ys = elim (t x) as (λ b. cond b (Some n) (position_from t (n + 1) (xs ++ ys)) ≡ cond (is_some (cond b (Some n) (position_from t (n + 1) xs))) (cond b (Some n) (position_from t (n + 1) xs)) (position_from t (n + length (x ∷ xs)) ys)) [
  | true ↦ refl
  | false ↦ let e : n + 1 + length xs ≡ n + length (x ∷ xs) = grind arith in position_from-append t (n + 1) xs ys ∙ (rw e refl)
]

pub position_from-below : {X : Type 0} (t : X → Bool) (n k : ℕ) (xs : List X) → position_from t n xs ≡ Some k → k < n + length xs
position_from-below t n k [] h = absurd (cc h)
position_from-below t n k (x ∷ xs) h = at_b (λ h. position_from-below t (n + 1) k xs h) (t x) h
  where
    at_b : (position_from t (n + 1) xs ≡ Some k → k < n + 1 + length xs) → (b : Bool) → cond b (Some n) (position_from t (n + 1) xs) ≡ Some k → k < n + length (x ∷ xs)
    at_b more true h = let same : n ≡ k = cc h in grind arith
    at_b more false h = let below : k < n + 1 + length xs = more h in grind arith

-- a name that is there has its place there, whatever follows
pub place-there : {V : Type 0} (es fs : List (List ℕ × V)) (q : List ℕ) → is_there es q ≡ true → place_of (es ++ fs) q ≡ place_of es q
place-there {V} es fs q there =
    position_from-append (λ (e : List ℕ × V). bytes_eq q e.0) 0 es fs
    ∙ place-found (place_of es q) (position_from (λ (e : List ℕ × V). bytes_eq q e.0) (0 + length es) fs) (sym (is_there-place 0 q es) ∙ there)

pub place-below : {V : Type 0} (es : List (List ℕ × V)) (q : List ℕ) (k : ℕ) → place_of es q ≡ Some k → k < length es
place-below {V} es q k h = omega (arith, position_from-below (λ (e : List ℕ × V). bytes_eq q e.0) 0 k es h)

-- a new name's place is the first after those that are there
pub place-new : {V : Type 0} (es fs : List (List ℕ × V)) (e : List ℕ × V) → is_there es e.0 ≡ false → place_of (es ++ e ∷ fs) e.0 ≡ Some (length es)
place-new {V} es fs e new =
    let none : place_of es e.0 ≡ None = place-None e.0 es new in
    let zero : 0 + length es ≡ length es = omega arith in
    position_from-append (λ (f : List ℕ × V). bytes_eq e.0 f.0) 0 es (e ∷ fs)
    ∙ (rw (none, bytes_eq-refl e.0, zero) refl)

pub item-after : {X : Type 0} (xs ys : List X) (x : X) → slice_get (xs ++ x ∷ ys) (length xs) ≡ Some x
item-after [] ys x = refl
item-after (y ∷ xs) ys x = item-after xs ys x
