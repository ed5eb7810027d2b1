-- Names in slots: what is found after one more.
use Rattle.std.proofs.Common.{arith, ◌≡◌, ℕ, zero, suc, ◌+◌, ◌-◌, ◌<◌, [], ◌∷◌, ◌++◌, None, Some, Option, Bool, true, false, List, Bor, take, length, replicate, slice_get, get_or, is_some, unwrap_or, nat_eq, bytes_eq, Result, Ok, Err, OnOk, refl, sym, ◌∙◌, ap, subst, cond}
use Rattle.std.specs.BTreeMap.{BTreeMap, get_by}
use Rattle.std.specs.Cmp.Lexicographic.{slice_cmp}
use Rattle.std.specs.Ordering.{nat_cmp}
use Rattle.std.specs.List.{position_from}
use Rattle.std.proofs.lemmas.Grind.{common_steps}
use Rattle.std.proofs.lemmas.List.{length-map, take_more}
use Rattle.vlog_elab.specs.Named.{place_of}
use Rattle.vlog_elab.specs.declared.name_positions.Look.{Look}
use Rattle.vlog_elab.specs.declared.name_positions.TheConstants.{EMPTY}
use Rattle.vlog_elab.specs.declared.name_positions.Look.TheVariants.{Free, At, Past}
use Rattle.vlog_elab.specs.inside.Agree.{texts, is_named, seen, look_at, or_second, look_up, found, Finds, FindsEach}
use Rattle.vlog_elab.specs.inside.Placed.{place_at, slot_of}
use Rattle.vlog_elab.proofs.Naming.{same_name, bytes_eq-refl, bytes_eq-sym, texts-push, position_from-push, place-found, place-kept, item-after}

nat_eq-refl : (n : ℕ) → nat_eq n n ≡ true
nat_eq-refl n = grind arith

same_number : (m n : ℕ) → nat_eq m n ≡ true → m ≡ n
same_number m n h = grind arith

-- names in different slots differ
other_name : (slot : List ℕ → ℕ) (a b : List ℕ) → nat_eq (slot a) (slot b) ≡ false → bytes_eq a b ≡ false
other_name slot a b h = at_b (bytes_eq a b) refl
  where
    at_b : (r : Bool) → bytes_eq a b ≡ r → bytes_eq a b ≡ false
    at_b false e = e
    at_b true e =
        let same : a ≡ b = same_name a b e in
        let no : true ≡ false = sym (nat_eq-refl (slot a)) ∙ ap (λ c. nat_eq (slot a) (slot c)) same ∙ h in
        absurd (cc no)

-- Entries, and one more.

slice_get-kept : {X : Type 0} (es : List X) (e : X) (n : ℕ) → n < length es → slice_get (es ++ e ∷ []) n ≡ slice_get es n
slice_get-kept [] e n h = absurd (omega arith)
slice_get-kept (x ∷ es) e zero h = refl
slice_get-kept (x ∷ es) e (suc n) h = slice_get-kept es e n (omega arith)

slice_get-take : {X : Type 0} (es : List X) (n i : ℕ) → i < length (take n es) → slice_get (take n es) i ≡ slice_get es i
slice_get-take [] zero i h = refl
slice_get-take [] (suc n) i h = refl
slice_get-take (x ∷ es) zero i h = absurd (omega arith)
slice_get-take (x ∷ es) (suc n) zero h = refl
slice_get-take (x ∷ es) (suc n) (suc i) h = slice_get-take es n i (omega arith)

length-more : {X : Type 0} (es : List X) (e : X) → length (es ++ e ∷ []) ≡ length es + 1
length-more es e = grind (arith, common_steps)

-- the place of a name
place-push : {V : Type 0} (es : List (Bor (List ℕ) × V)) (e : Bor (List ℕ) × V) (q : List ℕ)
    → place_of (texts (es ++ e ∷ [])) q ≡ cond (is_some (place_of (texts es) q)) (place_of (texts es) q) (cond (bytes_eq q e.0.now) (Some (length es)) None)
place-push {V} es e q =
    let len : length (texts es) ≡ length es = simp length-map in
    let here : 0 + length (texts es) ≡ length es = omega (arith, len) in
    ap (λ es. place_of es q) (texts-push es e)
    ∙ position_from-push (λ (e : List ℕ × V). bytes_eq q e.0) 0 (texts es) (e.0.now, e.1)
    ∙ ap (λ n. cond (is_some (place_of (texts es) q)) (place_of (texts es) q) (cond (bytes_eq q e.0.now) (Some n) None)) here

place-apart : {V : Type 0} (es : List (Bor (List ℕ) × V)) (e : Bor (List ℕ) × V) (q : List ℕ) → bytes_eq e.0.now q ≡ false → place_of (texts (es ++ e ∷ [])) q ≡ place_of (texts es) q
place-apart es e q apart =
    let other : bytes_eq q e.0.now ≡ false = bytes_eq-sym q e.0.now ∙ apart in
    place-push es e q ∙ ap (λ b. cond (is_some (place_of (texts es) q)) (place_of (texts es) q) (cond b (Some (length es)) None)) other ∙ place-kept (place_of (texts es) q)

place-again : {V : Type 0} (es : List (Bor (List ℕ) × V)) (e : Bor (List ℕ) × V) (q : List ℕ) → is_some (place_of (texts es) e.0.now) ≡ true → place_of (texts (es ++ e ∷ [])) q ≡ place_of (texts es) q
place-again es e q there = at_b (bytes_eq e.0.now q) refl
  where
    at_b : (b : Bool) → bytes_eq e.0.now q ≡ b → place_of (texts (es ++ e ∷ [])) q ≡ place_of (texts es) q
    at_b false h = place-apart es e q h
    at_b true h =
        let same : e.0.now ≡ q = same_name e.0.now q h in
        place-push es e q ∙ place-found (place_of (texts es) q) (cond (bytes_eq q e.0.now) (Some (length es)) None) (subst (λ q. is_some (place_of (texts es) q) ≡ true) same there)

-- a name without a place has none of the entries
nowhere : {V : Type 0} (n : ℕ) (es : List (Bor (List ℕ) × V)) (q : List ℕ) → position_from (λ e. bytes_eq q e.0) n (texts es) ≡ None → (p : ℕ) → is_named (slice_get es p) q ≡ false
nowhere n [] q h p = refl
nowhere {V} n (e ∷ es) q h p = at_b (λ h. nowhere (n + 1) es q h) (bytes_eq q e.0.now) refl h p
  where
    at_b : (position_from (λ (e : List ℕ × V). bytes_eq q e.0) (n + 1) (texts es) ≡ None → (p : ℕ) → is_named (slice_get es p) q ≡ false)
        → (b : Bool) → bytes_eq q e.0.now ≡ b → cond b (Some n) (position_from (λ (e : List ℕ × V). bytes_eq q e.0) (n + 1) (texts es)) ≡ None
        → (p : ℕ) → is_named (slice_get (e ∷ es) p) q ≡ false
    at_b more true same h p = absurd (cc h)
    at_b more false other h zero = bytes_eq-sym e.0.now q ∙ other
    at_b more false other h (suc p) = more h p

-- What is found. Here `firsts` are the places in the slots, `home` is the first slot of a name, and `others` are the places of the other names.

abbrev is_free : Look → Bool
is_free (Free slot) = true
is_free (At place) = false
is_free Past = false

abbrev both : {V : Type 0} → (ℕ → Option ℕ) → (List ℕ → ℕ) → List (Bor (List ℕ) × V) → List ℕ → Look
both firsts home es q = or_second (seen (home q) (firsts (home q)) es q) (seen (home q + 1) (firsts (home q + 1)) es q)

-- one more entry changes no look
seen-kept : {V : Type 0} (s : ℕ) (f : Option ℕ) (es : List (Bor (List ℕ) × V)) (e : Bor (List ℕ) × V) (q : List ℕ)
    → ((p : ℕ) → f ≡ Some p → p < length es) → seen s f (es ++ e ∷ []) q ≡ seen s f es q
seen-kept s None es e q within = refl
seen-kept s (Some p) es e q within = ap (λ x. cond (is_named x q) (At p) Past) (slice_get-kept es e p (within p refl))

both-kept : {V : Type 0} (firsts : ℕ → Option ℕ) (home : List ℕ → ℕ) (es : List (Bor (List ℕ) × V)) (e : Bor (List ℕ) × V) (q : List ℕ)
    → ((s p : ℕ) → firsts s ≡ Some p → p < length es) → both firsts home (es ++ e ∷ []) q ≡ both firsts home es q
both-kept firsts home es e q within =
    ap (λ a. or_second a (seen (home q + 1) (firsts (home q + 1)) (es ++ e ∷ []) q)) (seen-kept (home q) (firsts (home q)) es e q (within (home q)))
    ∙ ap (λ b. or_second (seen (home q) (firsts (home q)) es q) b) (seen-kept (home q + 1) (firsts (home q + 1)) es e q (within (home q + 1)))

finds-kept : {V : Type 0} (l after : Look) (o : Option ℕ) (es : List (Bor (List ℕ) × V)) (e : Bor (List ℕ) × V) (q : List ℕ)
    → after ≡ l → place_of (texts (es ++ e ∷ [])) q ≡ place_of (texts es) q → Finds l o es q → Finds after o (es ++ e ∷ []) q
finds-kept l after o es e q stays same h = subst (λ l. Finds l o (es ++ e ∷ []) q) (sym stays) (same ∙ h.0, h.1)

-- an entry of its name is there
each-again : {V : Type 0} (firsts : ℕ → Option ℕ) (home : List ℕ → ℕ) (others : List ℕ → Option ℕ) (es : List (Bor (List ℕ) × V)) (e : Bor (List ℕ) × V) (place : ℕ)
    → ((s p : ℕ) → firsts s ≡ Some p → p < length es) → both firsts home es e.0.now ≡ At place
    → ((q : List ℕ) → Finds (both firsts home es q) (others q) es q) → (q : List ℕ) → Finds (both firsts home (es ++ e ∷ []) q) (others q) (es ++ e ∷ []) q
each-again firsts home others es e place within there old q =
    let there_placed : place_of (texts es) e.0.now ≡ Some place = (old e.0.now).0 ∙ ap (λ l. found l (others e.0.now)) there in
    finds-kept (both firsts home es q) (both firsts home (es ++ e ∷ []) q) (others q) es e q
    (both-kept firsts home es e q within) (place-again es e q (ap is_some there_placed)) (old q)

-- its slots are other names', and its place is put among the others
first-other : (o : Option ℕ) (n place : ℕ) → place ≡ unwrap_or o n → cond (is_some o) o (Some n) ≡ Some place
first-other None n place h = ap Some (sym h)
first-other (Some p) n place h = ap Some (sym h)

each-other : {V : Type 0} (firsts : ℕ → Option ℕ) (home : List ℕ → ℕ) (others after : List ℕ → Option ℕ) (es : List (Bor (List ℕ) × V)) (e : Bor (List ℕ) × V) (place : ℕ)
    → ((s p : ℕ) → firsts s ≡ Some p → p < length es) → both firsts home es e.0.now ≡ Past → place ≡ unwrap_or (others e.0.now) (length es)
    → ((q : List ℕ) → after q ≡ cond (bytes_eq e.0.now q) (Some place) (others q))
    → ((q : List ℕ) → Finds (both firsts home es q) (others q) es q) → (q : List ℕ) → Finds (both firsts home (es ++ e ∷ []) q) (after q) (es ++ e ∷ []) q
each-other {V} firsts home others after es e place within past says puts old q = at_b (bytes_eq n q) refl
  where
    n : List ℕ
    n = e.0.now

    own : Finds (both firsts home (es ++ e ∷ []) n) (after n) (es ++ e ∷ []) n
    own =
        let was : place_of (texts es) n ≡ others n = (old n).0 ∙ ap (λ l. found l (others n)) past in
        let now : after n ≡ Some place = puts n ∙ ap (λ b. cond b (Some place) (others n)) (bytes_eq-refl n) in
        let placed : place_of (texts (es ++ e ∷ [])) n ≡ Some place
        = place-push es e n
        ∙ ap (λ b. cond (is_some (place_of (texts es) n)) (place_of (texts es) n) (cond b (Some (length es)) None)) (bytes_eq-refl n)
        ∙ ap (λ p. cond (is_some p) p (Some (length es))) was
        ∙ first-other (others n) (length es) place says in
        let stays : both firsts home (es ++ e ∷ []) n ≡ Past = both-kept firsts home es e n within ∙ past in
        subst (λ l. Finds l (after n) (es ++ e ∷ []) n) (sym stays) (placed ∙ sym now, λ slot h. absurd (cc h))

    at_b : (b : Bool) → bytes_eq n q ≡ b → Finds (both firsts home (es ++ e ∷ []) q) (after q) (es ++ e ∷ []) q
    at_b true h = subst (λ q. Finds (both firsts home (es ++ e ∷ []) q) (after q) (es ++ e ∷ []) q) (same_name n q h) own
    at_b false h =
        let now : after q ≡ others q = puts q ∙ ap (λ b. cond b (Some place) (others q)) h in
        subst (λ o. Finds (both firsts home (es ++ e ∷ []) q) o (es ++ e ∷ []) q) (sym now)
        (finds-kept (both firsts home es q) (both firsts home (es ++ e ∷ []) q) (others q) es e q (both-kept firsts home es e q within) (place-apart es e q h) (old q))

-- a slot of its own is free, and gets its place

-- a look that ends at a free slot
seen-free : {V : Type 0} (t s : ℕ) (f : Option ℕ) (es : List (Bor (List ℕ) × V)) (q : List ℕ) → seen t f es q ≡ Free s → (t ≡ s) × (f ≡ None)
seen-free t s None es q h = (cc h, refl)
seen-free t s (Some p) es q h = at_b (is_named (slice_get es p) q) h
  where
    at_b : (b : Bool) → cond b (At p) Past ≡ Free s → (t ≡ s) × (Some p ≡ None)
    at_b true h = absurd (cc h)
    at_b false h = absurd (cc h)

both-free : {V : Type 0} (firsts : ℕ → Option ℕ) (home : List ℕ → ℕ) (es : List (Bor (List ℕ) × V)) (q : List ℕ) (s : ℕ) → both firsts home es q ≡ Free s → firsts s ≡ None
both-free {V} firsts home es q s h = at_a (seen (home q) (firsts (home q)) es q) refl h
  where
    at_slot : (t : ℕ) → seen t (firsts t) es q ≡ Free s → firsts s ≡ None
    at_slot t h = let is = seen-free t s (firsts t) es q h in ap firsts (sym is.0) ∙ is.1

    at_a : (a : Look) → seen (home q) (firsts (home q)) es q ≡ a → or_second a (seen (home q + 1) (firsts (home q + 1)) es q) ≡ Free s → firsts s ≡ None
    at_a (Free t) is h = at_slot (home q) (is ∙ h)
    at_a (At p) is h = absurd (cc h)
    at_a Past is h = at_slot (home q + 1) h

-- a name without a place isn't found
nowhere-found : {V : Type 0} (firsts : ℕ → Option ℕ) (home : List ℕ → ℕ) (o : Option ℕ) (es : List (Bor (List ℕ) × V)) (q : List ℕ)
    → place_of (texts es) q ≡ None → o ≡ None → found (both firsts home es q) o ≡ None
nowhere-found {V} firsts home o es q none alone = at_f (firsts (home q)) (firsts (home q + 1))
  where
    past : (t p : ℕ) → seen t (Some p) es q ≡ Past
    past t p = ap (λ b. cond b (At p) Past) (nowhere 0 es q none p)

    at_g : (g : Option ℕ) → found (seen (home q + 1) g es q) o ≡ None
    at_g None = refl
    at_g (Some p) = ap (λ l. found l o) (past (home q + 1) p) ∙ alone

    at_f : (f g : Option ℕ) → found (or_second (seen (home q) f es q) (seen (home q + 1) g es q)) o ≡ None
    at_f None g = refl
    at_f (Some p) g = ap (λ a. found (or_second a (seen (home q + 1) g es q)) o) (past (home q) p) ∙ at_g g

each-put : {V : Type 0} (firsts after : ℕ → Option ℕ) (home : List ℕ → ℕ) (others : List ℕ → Option ℕ) (es : List (Bor (List ℕ) × V)) (e : Bor (List ℕ) × V) (s : ℕ)
    → ((s p : ℕ) → firsts s ≡ Some p → p < length es) → both firsts home es e.0.now ≡ Free s → ((t : ℕ) → after t ≡ cond (nat_eq s t) (Some (length es)) (firsts t))
    → ((q : List ℕ) → Finds (both firsts home es q) (others q) es q) → (q : List ℕ) → Finds (both after home (es ++ e ∷ []) q) (others q) (es ++ e ∷ []) q
each-put {V} firsts after home others es e s within free puts old q = at_b (bytes_eq n q) refl
  where
    n : List ℕ
    n = e.0.now

    empty : firsts s ≡ None
    empty = both-free firsts home es n s free

    apart : (t : ℕ) → nat_eq s t ≡ false → after t ≡ firsts t
    apart t h = puts t ∙ ap (λ b. cond b (Some (length es)) (firsts t)) h

    stays : (t p : ℕ) → firsts t ≡ Some p → (b : Bool) → nat_eq s t ≡ b → after t ≡ firsts t
    stays t p some false h = apart t h
    stays t p some true h =
        let no : None ≡ Some p = sym empty ∙ ap firsts (same_number s t h) ∙ some in
        absurd (cc no)

    seen-put : (t : ℕ) (l : Look) (q : List ℕ) → is_free l ≡ false → (f : Option ℕ) → firsts t ≡ f → seen t f es q ≡ l → seen t (after t) (es ++ e ∷ []) q ≡ l
    seen-put t l q taken None is h = let no : true ≡ false = ap is_free h ∙ taken in absurd (cc no)
    seen-put t l q taken (Some p) is h =
        ap (λ f. seen t f (es ++ e ∷ []) q) (stays t p is (nat_eq s t) refl ∙ is)
        ∙ seen-kept t (Some p) es e q (λ p same. within t p (is ∙ same))
        ∙ h

    here : (t : ℕ) → t ≡ s → seen t (after t) (es ++ e ∷ []) n ≡ At (length es)
    here t is =
        let now : after t ≡ Some (length es) = puts t ∙ ap (λ t. cond (nat_eq s t) (Some (length es)) (firsts t)) is ∙ ap (λ b. cond b (Some (length es)) (firsts s)) (nat_eq-refl s) in
        ap (λ f. seen t f (es ++ e ∷ []) n) now
        ∙ ap (λ x. cond (is_named x n) (At (length es)) Past) (item-after es [] e)
        ∙ ap (λ b. cond b (At (length es)) Past) (bytes_eq-refl n)

    own_look : (a : Look) → seen (home n) (firsts (home n)) es n ≡ a → or_second a (seen (home n + 1) (firsts (home n + 1)) es n) ≡ Free s → both after home (es ++ e ∷ []) n ≡ At (length es)
    own_look (Free t) is h =
        let at = seen-free (home n) s (firsts (home n)) es n (is ∙ h) in
        ap (λ a. or_second a (seen (home n + 1) (after (home n + 1)) (es ++ e ∷ []) n)) (here (home n) at.0)
    own_look (At p) is h = absurd (cc h)
    own_look Past is h =
        let at = seen-free (home n + 1) s (firsts (home n + 1)) es n h in
        ap (λ a. or_second a (seen (home n + 1) (after (home n + 1)) (es ++ e ∷ []) n)) (seen-put (home n) Past n refl (firsts (home n)) refl is)
        ∙ here (home n + 1) at.0

    own : Finds (both after home (es ++ e ∷ []) n) (others n) (es ++ e ∷ []) n
    own =
        let was : place_of (texts es) n ≡ None = (old n).0 ∙ ap (λ l. found l (others n)) free in
        let placed : place_of (texts (es ++ e ∷ [])) n ≡ Some (length es)
        = place-push es e n
        ∙ ap (λ p. cond (is_some p) p (cond (bytes_eq n n) (Some (length es)) None)) was
        ∙ ap (λ b. cond b (Some (length es)) None) (bytes_eq-refl n) in
        subst (λ l. Finds l (others n) (es ++ e ∷ []) n) (sym (own_look (seen (home n) (firsts (home n)) es n) refl free)) (placed, λ slot h. absurd (cc h))

    -- a look for another name that ends at no free slot ends as before
    both-stays : (a b : Look) → seen (home q) (firsts (home q)) es q ≡ a → seen (home q + 1) (firsts (home q + 1)) es q ≡ b → is_free (or_second a b) ≡ false
        → both after home (es ++ e ∷ []) q ≡ or_second a b
    both-stays (Free t) b is next taken = absurd (cc taken)
    both-stays (At p) b is next taken =
        ap (λ a. or_second a (seen (home q + 1) (after (home q + 1)) (es ++ e ∷ []) q)) (seen-put (home q) (At p) q refl (firsts (home q)) refl is)
    both-stays Past b is next taken =
        ap (λ a. or_second a (seen (home q + 1) (after (home q + 1)) (es ++ e ∷ []) q)) (seen-put (home q) Past q refl (firsts (home q)) refl is)
        ∙ seen-put (home q + 1) b q taken (firsts (home q + 1)) refl next

    other : bytes_eq n q ≡ false → (l : Look) → both firsts home es q ≡ l → Finds (both after home (es ++ e ∷ []) q) (others q) (es ++ e ∷ []) q
    other differs (Free t) is =
        let alone : others q ≡ None = (old q).1 t is in
        let none : place_of (texts (es ++ e ∷ [])) q ≡ None = place-apart es e q differs ∙ (old q).0 ∙ ap (λ l. found l (others q)) is in
        (none ∙ sym (nowhere-found after home (others q) (es ++ e ∷ []) q none alone), λ slot h. alone)
    other differs (At p) is =
        finds-kept (both firsts home es q) (both after home (es ++ e ∷ []) q) (others q) es e q
        (both-stays (seen (home q) (firsts (home q)) es q) (seen (home q + 1) (firsts (home q + 1)) es q) refl refl (ap is_free is)) (place-apart es e q differs) (old q)
    other differs Past is =
        finds-kept (both firsts home es q) (both after home (es ++ e ∷ []) q) (others q) es e q
        (both-stays (seen (home q) (firsts (home q)) es q) (seen (home q + 1) (firsts (home q + 1)) es q) refl refl (ap is_free is)) (place-apart es e q differs) (old q)

    at_b : (b : Bool) → bytes_eq n q ≡ b → Finds (both after home (es ++ e ∷ []) q) (others q) (es ++ e ∷ []) q
    at_b true h = subst (λ q. Finds (both after home (es ++ e ∷ []) q) (others q) (es ++ e ∷ []) q) (same_name n q h) own
    at_b false h = other h (both firsts home es q) refl

-- The next of some entries is taken up.

-- the names that a map has places for
abbrev pub others_of : BTreeMap (Bor (List ℕ)) ℕ → List ℕ → Option ℕ
others_of by_name q = get_by (λ k. slice_cmp nat_cmp q k.now) by_name

-- the first slot of a name
abbrev pub home_of : List ℕ → List ℕ → ℕ
home_of slots q = slot_of (length slots - 1) q

length-take_at : {X : Type 0} (es : List X) (n : ℕ) → n < length es → length (take n es) ≡ n
length-take_at es n h = grind (arith, common_steps)

taken-more : {X : Type 0} (entries : List X) (place : ℕ) (e : X) → place < length entries → e ≡ get_or entries place e → take (place + 1) entries ≡ take place entries ++ e ∷ []
taken-more {X} entries place e within is = take_more entries place e within ∙ ap (λ e. take place entries ++ e ∷ []) (sym is)

pub named-at : {V : Type 0} (entries : List (Bor (List ℕ) × V)) (place : ℕ) (e : Bor (List ℕ) × V) (name : List ℕ) → e ≡ get_or entries place e → name ≡ (get_or entries place e).0.now → name ≡ e.0.now
named-at {V} entries place e name is same = same ∙ ap (λ (e : Bor (List ℕ) × V). e.0.now) (sym is)

-- the entries that are taken up already are all that a look meets
seen-taken : {V : Type 0} (s n : ℕ) (f : Option ℕ) (es : List (Bor (List ℕ) × V)) (q : List ℕ) → ((p : ℕ) → f ≡ Some p → p < length (take n es)) → seen s f (take n es) q ≡ seen s f es q
seen-taken s n None es q within = refl
seen-taken s n (Some p) es q within = ap (λ x. cond (is_named x q) (At p) Past) (slice_get-take es n p (within p refl))

look-taken : {V : Type 0} (slots : List ℕ) (n : ℕ) (es : List (Bor (List ℕ) × V)) (q : List ℕ)
    → ((s p : ℕ) → place_at slots s ≡ Some p → p < length (take n es)) → look_up slots (take n es) q ≡ look_up slots es q
look-taken slots n es q within =
    ap (λ a. or_second a (look_at slots (home_of slots q + 1) (take n es) q)) (seen-taken (home_of slots q) n (place_at slots (home_of slots q)) es q (within (home_of slots q)))
    ∙ ap (λ b. or_second (look_at slots (home_of slots q) es q) b) (seen-taken (home_of slots q + 1) n (place_at slots (home_of slots q + 1)) es q (within (home_of slots q + 1)))

get_or-alike : (n s x : ℕ) → get_or (replicate n x) s x ≡ x
get_or-alike zero s x = refl
get_or-alike (suc n) zero x = refl
get_or-alike (suc n) (suc s) x = get_or-alike n s x

pub free-slots : (slots : List ℕ) (n s : ℕ) → slots ≡ replicate n EMPTY → place_at slots s ≡ None
free-slots slots n s all =
    ap (λ slots. place_at slots s) all
    ∙ ap (λ x. cond (nat_eq x EMPTY) None (Some x)) (get_or-alike n s EMPTY)
    ∙ ap (λ b. cond b None (Some EMPTY)) (nat_eq-refl EMPTY)

-- no slot is taken, and no name is in the map
pub none-taken : {V : Type 0} (slots : List ℕ) (by_name : BTreeMap (Bor (List ℕ)) ℕ) → 1 < length slots → ((s : ℕ) → place_at slots s ≡ None) → ((q : List ℕ) → others_of by_name q ≡ None) → FindsEach {V = V} slots by_name []
none-taken slots by_name some free alone = record {
  some = some;
  within = λ s p there. let no : None ≡ Some p = sym (free s) ∙ there in absurd (cc no);
  each = λ q. (sym (nowhere-found (place_at slots) (home_of slots) (others_of by_name q) [] q refl (alone q)), λ slot h. alone q);
}

-- a slot of its own is free
pub next-free : {V : Type 0} (slots after : List ℕ) (by_name : BTreeMap (Bor (List ℕ)) ℕ) (entries : List (Bor (List ℕ) × V)) (place : ℕ) (e : Bor (List ℕ) × V) (name : List ℕ) (slot : ℕ)
    → place < length entries → e ≡ get_or entries place e → name ≡ e.0.now → length after ≡ length slots
    → look_up slots entries name ≡ Free slot → ((n : ℕ) → place_at after n ≡ cond (nat_eq slot n) (Some place) (place_at slots n))
    → FindsEach slots by_name (take place entries) → FindsEach after by_name (take (place + 1) entries)
next-free {V} slots after by_name entries place e name slot within is same len free puts old =
    let here : length (take place entries) ≡ place = length-take_at entries place within in
    let more : length (take place entries ++ e ∷ []) ≡ length (take place entries) + 1 = length-more (take place entries) e in
    let put : (n : ℕ) → place_at after n ≡ cond (nat_eq slot n) (Some (length (take place entries))) (place_at slots n)
    = λ n. puts n ∙ ap (λ place. cond (nat_eq slot n) (Some place) (place_at slots n)) (sym here) in
    let ends : look_up slots (take place entries) e.0.now ≡ Free slot
    = look-taken slots place entries e.0.now old.within ∙ ap (λ n. look_up slots entries n) (sym same) ∙ free in
    let each = each-put (place_at slots) (place_at after) (home_of slots) (others_of by_name) (take place entries) e slot old.within ends put old.each in
    let below : (n p : ℕ) → (b : Bool) → place_at after n ≡ cond b (Some (length (take place entries))) (place_at slots n) → place_at after n ≡ Some p → p < length (take place entries ++ e ∷ [])
    = λ n p b. elim b as (λ b. place_at after n ≡ cond b (Some (length (take place entries))) (place_at slots n) → place_at after n ≡ Some p → p < length (take place entries ++ e ∷ [])) [
      | true ↦ λ put there. let is : length (take place entries) ≡ p = cc (put, there) in omega (arith, is, more)
      | false ↦ λ put there. let was : p < length (take place entries) = old.within n p (sym put ∙ there) in omega (arith, was, more)
    ] in
    subst (λ es. FindsEach after by_name es) (sym (taken-more entries place e within is)) (record {
      some = subst (λ n. 1 < n) (sym len) old.some;
      within = λ n p. below n p (nat_eq slot n) (put n);
      each = λ q. subst (λ n. Finds (or_second (seen (slot_of (n - 1) q) (place_at after (slot_of (n - 1) q)) (take place entries ++ e ∷ []) q) (seen (slot_of (n - 1) q + 1) (place_at after (slot_of (n - 1) q + 1)) (take place entries ++ e ∷ []) q)) (others_of by_name q) (take place entries ++ e ∷ []) q) (sym len) (each q);
    })

-- the next entry, where no slot is put
next : {V : Type 0} (slots : List ℕ) (by_name after : BTreeMap (Bor (List ℕ)) ℕ) (entries : List (Bor (List ℕ) × V)) (place : ℕ) (e : Bor (List ℕ) × V)
    → place < length entries → e ≡ get_or entries place e → FindsEach slots by_name (take place entries)
    → ((q : List ℕ) → Finds (look_up slots (take place entries ++ e ∷ []) q) (others_of after q) (take place entries ++ e ∷ []) q)
    → FindsEach slots after (take (place + 1) entries)
next {V} slots by_name after entries place e within is old each =
    let more : length (take place entries ++ e ∷ []) ≡ length (take place entries) + 1 = length-more (take place entries) e in
    subst (λ es. FindsEach slots after es) (sym (taken-more entries place e within is)) (record {
      some = old.some;
      within = λ n p there. let was : p < length (take place entries) = old.within n p there in omega (arith, was, more);
      each = each;
    })

-- an entry of its name is there
pub next-again : {V : Type 0} (slots : List ℕ) (by_name : BTreeMap (Bor (List ℕ)) ℕ) (entries : List (Bor (List ℕ) × V)) (place : ℕ) (e : Bor (List ℕ) × V) (name : List ℕ) (first : ℕ)
    → place < length entries → e ≡ get_or entries place e → name ≡ e.0.now → look_up slots entries name ≡ At first
    → FindsEach slots by_name (take place entries) → FindsEach slots by_name (take (place + 1) entries)
next-again slots by_name entries place e name first within is same there old =
    let ends : look_up slots (take place entries) e.0.now ≡ At first = look-taken slots place entries e.0.now old.within ∙ ap (λ n. look_up slots entries n) (sym same) ∙ there in
    next slots by_name by_name entries place e within is old
    (each-again (place_at slots) (home_of slots) (others_of by_name) (take place entries) e first old.within ends old.each)

-- other names have its slots, and it goes into the map
pub next-other : {V : Type 0} (slots : List ℕ) (by_name after : BTreeMap (Bor (List ℕ)) ℕ) (entries : List (Bor (List ℕ) × V)) (place : ℕ) (e : Bor (List ℕ) × V) (name : List ℕ) (first : ℕ)
    → place < length entries → e ≡ get_or entries place e → name ≡ e.0.now → look_up slots entries name ≡ Past
    → first ≡ unwrap_or (others_of by_name name) place → ((q : List ℕ) → others_of after q ≡ cond (bytes_eq name q) (Some first) (others_of by_name q))
    → FindsEach slots by_name (take place entries) → FindsEach slots after (take (place + 1) entries)
next-other slots by_name after entries place e name first within is same past says puts old =
    let here : length (take place entries) ≡ place = length-take_at entries place within in
    let ends : look_up slots (take place entries) e.0.now ≡ Past = look-taken slots place entries e.0.now old.within ∙ ap (λ n. look_up slots entries n) (sym same) ∙ past in
    let says_here : first ≡ unwrap_or (others_of by_name e.0.now) (length (take place entries))
    = says ∙ ap (λ n. unwrap_or (others_of by_name n) place) same ∙ ap (λ n. unwrap_or (others_of by_name e.0.now) n) (sym here) in
    next slots by_name after entries place e within is old
    (each-other (place_at slots) (home_of slots) (others_of by_name) (others_of after) (take place entries) e first old.within ends says_here
    (λ q. puts q ∙ ap (λ n. cond (bytes_eq n q) (Some first) (others_of by_name q)) same) old.each)

pub on-ok : {X E : Type 0} (result : Result X E) {P Q : Type 0} → (P → Q) → OnOk result P → OnOk result Q
on-ok (Ok x) f p = f p
on-ok (Err e) f p = tt
