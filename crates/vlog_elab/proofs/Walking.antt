-- Walks: in parts, and by what stands before each item.
use Rattle.std.proofs.Common.{◌≡◌, ℕ, ◌+◌, ◌<◌, [], ◌∷◌, ◌++◌, None, Some, Option, List, map, take, drop, length, get_or, refl, sym, ◌∙◌, ap, subst, append_assoc, Result, Ok, Err}
use Rattle.std.specs.List.{flat_map}
use Rattle.std.proofs.lemmas.Grind.{flat_map-append}
use Rattle.std.proofs.lemmas.List.{append-nil, take_more, drop_more, take-append-drop, map-append}
use Rattle.std.specs.Option.{option_or}
use Rattle.vlog_elab.specs.declared.fault.ElabFault.{ElabFault}
use Rattle.vlog_elab.specs.declared.fault.ElabFault.TheVariants.{Fault, NoMemory}
use Rattle.flatten_rules.specs.Check.{first_broken, each_after}
use Rattle.flatten_rules.proofs.FirstBroken.{first_broken-append, each_after-append}
use Rattle.vlog_elab.specs.Check.{Check}
use Rattle.vlog_elab.specs.inside.Walk.{Walk, first_fault, at_end, Found, Passed, Fails, Walks}

pub or-none : (o : Option ElabFault) → option_or o None ≡ o
or-none None = refl
or-none (Some f) = refl

pub or-assoc : (a b c : Option ElabFault) → option_or (option_or a b) c ≡ option_or a (option_or b c)
or-assoc None b c = refl
or-assoc (Some f) b c = refl

pub first_fault-append : {S X : Type 0} (w : Walk S X) (s : S) (xs ys : List X) → first_fault w s (xs ++ ys) ≡ option_or (first_fault w s xs) (first_fault w (at_end w s xs) ys)
first_fault-append w s [] ys = refl
first_fault-append w s (x ∷ xs) ys =
    ap (option_or (first_broken (w.checks s x))) (first_fault-append w (w.after s x) xs ys)
    ∙ sym (or-assoc (first_broken (w.checks s x)) (first_fault w (w.after s x) xs) (first_fault w (at_end w (w.after s x) xs) ys))

pub at_end-append : {S X : Type 0} (w : Walk S X) (s : S) (xs ys : List X) → at_end w s (xs ++ ys) ≡ at_end w (at_end w s xs) ys
at_end-append w s [] ys = refl
at_end-append w s (x ∷ xs) ys = at_end-append w (w.after s x) xs ys

-- a fault that is found stays the first, whatever follows
pub found-or : (o p : Option ElabFault) (f : ElabFault) → Found o f → Found (option_or o p) f
found-or o p NoMemory h = tt
found-or o p (Fault kind at name) h = rw h refl

pub found-after : (o p : Option ElabFault) (f : ElabFault) → o ≡ None → Found p f → Found (option_or o p) f
found-after o p f none h = rw none h

pub found-along : (o p : Option ElabFault) (f : ElabFault) → o ≡ p → Found p f → Found o f
found-along o p f e h = rw e h

-- nothing is walked over
pub passed-none : {S X : Type 0} {w : Walk S X} {s : S} → Passed w s [] s
passed-none = record { none = refl; end = refl }

-- one part after the other
pub passed-then : {S X : Type 0} {w : Walk S X} {s t u : S} {xs ys : List X} → Passed w s xs t → Passed w t ys u → Passed w s (xs ++ ys) u
passed-then {w = w} {s = s} {t = t} {u = u} {xs = xs} {ys = ys} p q = record {
  none = first_fault-append w s xs ys ∙ (rw (p.none, ← p.end) q.none);
  end = q.end ∙ (rw p.end (sym (at_end-append w s xs ys)));
}

pub fails-then : {S X : Type 0} {w : Walk S X} {s t : S} {xs ys : List X} {f : ElabFault} → Passed w s xs t → Fails w t ys f → Fails w s (xs ++ ys) f
fails-then {w = w} {s = s} {t = t} {xs = xs} {ys = ys} {f = f} p q = record {
  found =
      found-along (first_fault w s (xs ++ ys)) (first_fault w t ys) f
      (first_fault-append w s xs ys ∙ (rw (p.none, ← p.end) refl)) q.found;
}

pub fails-before : {S X : Type 0} {w : Walk S X} {s : S} {xs : List X} {f : ElabFault} (ys : List X) → Fails w s xs f → Fails w s (xs ++ ys) f
fails-before {w = w} {s = s} {xs = xs} {f = f} ys q = record {
  found =
      found-along (first_fault w s (xs ++ ys)) (option_or (first_fault w s xs) (first_fault w (at_end w s xs) ys)) f
      (first_fault-append w s xs ys) (found-or (first_fault w s xs) (first_fault w (at_end w s xs) ys) f q.found);
}

-- a list up to a place, one item more, and the list from there on
pub one_more : {Y : Type 0} (ys : List Y) (i : ℕ) (y : Y) → i < length ys → y ≡ get_or ys i y → take (i + 1) ys ≡ take i ys ++ y ∷ []
one_more ys i y within here = take_more ys i y within ∙ (rw (← here) refl)

pub parted : {Y : Type 0} (ys : List Y) (i : ℕ) (y : Y) → i < length ys → y ≡ get_or ys i y → ys ≡ take i ys ++ (y ∷ drop (i + 1) ys)
parted ys i y within here = sym (take-append-drop i ys) ∙ ap (λ rest. take i ys ++ rest) (drop_more ys i y within ∙ (rw (← here) refl))

pub flat_map-push : {X Y : Type 0} (f : X → List Y) (xs : List X) (x : X) → flat_map f (xs ++ x ∷ []) ≡ flat_map f xs ++ f x
flat_map-push f xs x = flat_map-append f xs (x ∷ []) ∙ ap (λ rest. flat_map f xs ++ rest) (append-nil (f x))

-- A loop over items: the part of each item is walked over after those of the items before it.

pub more-each : {S X Y : Type 0} {w : Walk S X} {s t u : S} (f : List Y → Y → List X) (before ys : List Y) (i : ℕ) (y : Y) → i < length ys → y ≡ get_or ys i y
    → Passed w s (each_after f before (take i ys)) t → Passed w t (f (before ++ take i ys) y) u → Passed w s (each_after f before (take (i + 1) ys)) u
more-each {X = X} {w = w} {s = s} {t = t} {u = u} f before ys i y within here p q =
    let e : each_after f before (take (i + 1) ys) ≡ each_after f before (take i ys) ++ f (before ++ take i ys) y
    = ap (each_after f before) (one_more ys i y within here) ∙ each_after-append f before (take i ys) (y ∷ []) ∙ ap (λ rest. each_after f before (take i ys) ++ rest) (append-nil (f (before ++ take i ys) y)) in
    subst (λ (xs : List X). Passed w s xs u) (sym e) (passed-then p q)

pub fails-each : {S X Y : Type 0} {w : Walk S X} {s t : S} {e : ElabFault} (f : List Y → Y → List X) (before ys : List Y) (i : ℕ) (y : Y) → i < length ys → y ≡ get_or ys i y
    → Passed w s (each_after f before (take i ys)) t → Fails w t (f (before ++ take i ys) y) e → Fails w s (each_after f before ys) e
fails-each {X = X} {w = w} {s = s} {t = t} {e = e} f before ys i y within here p q =
    let parts : each_after f before ys ≡ each_after f before (take i ys) ++ (f (before ++ take i ys) y ++ each_after f ((before ++ take i ys) ++ y ∷ []) (drop (i + 1) ys))
    = ap (each_after f before) (parted ys i y within here) ∙ each_after-append f before (take i ys) (y ∷ drop (i + 1) ys) in
    subst (λ (xs : List X). Fails w s xs e) (sym parts) (fails-then p (fails-before (each_after f ((before ++ take i ys) ++ y ∷ []) (drop (i + 1) ys)) q))

pub more-flat : {S X Y : Type 0} {w : Walk S X} {s t u : S} (f : Y → List X) (ys : List Y) (i : ℕ) (y : Y) → i < length ys → y ≡ get_or ys i y
    → Passed w s (flat_map f (take i ys)) t → Passed w t (f y) u → Passed w s (flat_map f (take (i + 1) ys)) u
more-flat {X = X} {w = w} {s = s} {t = t} {u = u} f ys i y within here p q =
    let e : flat_map f (take (i + 1) ys) ≡ flat_map f (take i ys) ++ f y
    = ap (flat_map f) (one_more ys i y within here) ∙ flat_map-append f (take i ys) (y ∷ []) ∙ ap (λ rest. flat_map f (take i ys) ++ rest) (append-nil (f y)) in
    subst (λ (xs : List X). Passed w s xs u) (sym e) (passed-then p q)

pub fails-flat : {S X Y : Type 0} {w : Walk S X} {s t : S} {e : ElabFault} (f : Y → List X) (ys : List Y) (i : ℕ) (y : Y) → i < length ys → y ≡ get_or ys i y
    → Passed w s (flat_map f (take i ys)) t → Fails w t (f y) e → Fails w s (flat_map f ys) e
fails-flat {X = X} {w = w} {s = s} {t = t} {e = e} f ys i y within here p q =
    let parts : flat_map f ys ≡ flat_map f (take i ys) ++ (f y ++ flat_map f (drop (i + 1) ys))
    = ap (flat_map f) (parted ys i y within here) ∙ flat_map-append f (take i ys) (y ∷ drop (i + 1) ys) in
    subst (λ (xs : List X). Fails w s xs e) (sym parts) (fails-then p (fails-before (flat_map f (drop (i + 1) ys)) q))

pub more-map : {S X Y : Type 0} {w : Walk S X} {s t u : S} (f : Y → X) (ys : List Y) (i : ℕ) (y : Y) → i < length ys → y ≡ get_or ys i y
    → Passed w s (map f (take i ys)) t → Passed w t (f y ∷ []) u → Passed w s (map f (take (i + 1) ys)) u
more-map {X = X} {w = w} {s = s} {t = t} {u = u} f ys i y within here p q =
    let e : map f (take (i + 1) ys) ≡ map f (take i ys) ++ f y ∷ []
    = ap (map f) (one_more ys i y within here) ∙ map-append f (take i ys) (y ∷ []) in
    subst (λ (xs : List X). Passed w s xs u) (sym e) (passed-then p q)

pub fails-map : {S X Y : Type 0} {w : Walk S X} {s t : S} {e : ElabFault} (f : Y → X) (ys : List Y) (i : ℕ) (y : Y) → i < length ys → y ≡ get_or ys i y
    → Passed w s (map f (take i ys)) t → Fails w t (f y ∷ []) e → Fails w s (map f ys) e
fails-map {X = X} {w = w} {s = s} {t = t} {e = e} f ys i y within here p q =
    let parts : map f ys ≡ map f (take i ys) ++ ((f y ∷ []) ++ map f (drop (i + 1) ys))
    = ap (map f) (parted ys i y within here) ∙ map-append f (take i ys) (y ∷ drop (i + 1) ys) in
    subst (λ (xs : List X). Fails w s xs e) (sym parts) (fails-then p (fails-before (map f (drop (i + 1) ys)) q))

pub more-items : {S X : Type 0} {w : Walk S X} {s t u : S} (xs : List X) (i : ℕ) (x : X) → i < length xs → x ≡ get_or xs i x
    → Passed w s (take i xs) t → Passed w t (x ∷ []) u → Passed w s (take (i + 1) xs) u
more-items {X = X} {w = w} {s = s} {u = u} xs i x within here p q =
    subst (λ (xs : List X). Passed w s xs u) (sym (one_more xs i x within here)) (passed-then p q)

pub fails-items : {S X : Type 0} {w : Walk S X} {s t : S} {e : ElabFault} (xs : List X) (i : ℕ) (x : X) → i < length xs → x ≡ get_or xs i x
    → Passed w s (take i xs) t → Fails w t (x ∷ []) e → Fails w s xs e
fails-items {X = X} {w = w} {s = s} {e = e} xs i x within here p q =
    subst (λ (xs : List X). Fails w s xs e) (sym (parted xs i x within here)) (fails-then p (fails-before (drop (i + 1) xs) q))

-- A walk by what stands before each item: `known` of the items before it is what the walk knows.

pub walked : {S X : Type 0} (w : Walk S X) (known : List X → S) → ((before : List X) (x : X) → known (before ++ x ∷ []) ≡ w.after (known before) x)
    → (before xs : List X) → first_broken (each_after (λ before x. w.checks (known before) x) before xs) ≡ first_fault w (known before) xs
walked w known more before [] = refl
walked w known more before (x ∷ xs) =
    first_broken-append (w.checks (known before) x) (each_after (λ before x. w.checks (known before) x) (before ++ x ∷ []) xs)
    ∙ ap (option_or (first_broken (w.checks (known before) x))) (walked w known more (before ++ x ∷ []) xs ∙ ap (λ s. first_fault w s xs) (more before x))

pub known-at_end : {S X : Type 0} (w : Walk S X) (known : List X → S) → ((before : List X) (x : X) → known (before ++ x ∷ []) ≡ w.after (known before) x)
    → (before xs : List X) → known (before ++ xs) ≡ at_end w (known before) xs
known-at_end w known more before [] = ap known (append-nil before)
known-at_end w known more before (x ∷ xs) =
    ap known (sym (append_assoc before (x ∷ []) xs)) ∙ known-at_end w known more (before ++ x ∷ []) xs ∙ ap (λ s. at_end w s xs) (more before x)

-- after a part that is passed, what the rest gives is what the whole gives
pub walks-then : {S X T : Type 0} {w : Walk S X} {s t : S} {xs : List X} (ys : List X) (r : Result T ElabFault) (u : S) → Passed w s xs t → Walks w t ys r u → Walks w s (xs ++ ys) r u
walks-then ys (Ok v) u p q = passed-then p q
walks-then ys (Err e) u p q = fails-then p q

-- A loop over checks.

pub checks-more : {Y : Type 0} (f : Y → List Check) (ys : List Y) (i : ℕ) (y : Y) → i < length ys → y ≡ get_or ys i y
    → first_broken (flat_map f (take i ys)) ≡ None → first_broken (f y) ≡ None → first_broken (flat_map f (take (i + 1) ys)) ≡ None
checks-more f ys i y within here p q =
    ap (λ ys. first_broken (flat_map f ys)) (one_more ys i y within here) ∙ ap first_broken (flat_map-push f (take i ys) y)
    ∙ first_broken-append (flat_map f (take i ys)) (f y) ∙ (rw (p, q) refl)

pub checks-fail : {Y : Type 0} (f : Y → List Check) (ys : List Y) (i : ℕ) (y : Y) (e : ElabFault) → i < length ys → y ≡ get_or ys i y
    → first_broken (flat_map f (take i ys)) ≡ None → Found (first_broken (f y)) e → Found (first_broken (flat_map f ys)) e
checks-fail f ys i y e within here p q =
    let rest : List Check = flat_map f (drop (i + 1) ys) in
    let parts : first_broken (flat_map f ys) ≡ option_or (first_broken (flat_map f (take i ys))) (option_or (first_broken (f y)) (first_broken rest))
    = ap (λ ys. first_broken (flat_map f ys)) (parted ys i y within here) ∙ ap first_broken (flat_map-append f (take i ys) (y ∷ drop (i + 1) ys))
    ∙ first_broken-append (flat_map f (take i ys)) (f y ++ rest) ∙ ap (option_or (first_broken (flat_map f (take i ys)))) (first_broken-append (f y) rest) in
    found-along _ _ e parts (found-after _ _ e p (found-or _ _ e q))
