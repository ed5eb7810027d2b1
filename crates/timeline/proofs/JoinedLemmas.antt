-- Moves of two things, side by side.
use Rattle.std.proofs.Common.{◌≡◌, ℕ, suc, ◌+◌, List, [], ◌∷◌, ◌++◌, length, drop, refl, sym, ap, subst, ◌∙◌, false}
use Rattle.timeline.specs.Timeline.{Moment, Timeline, Moves}
use Rattle.timeline.specs.Joined.{joined, AreTied, IsJoint}

module _ {X Y : Type 0} (P : X → Y → Type 0) where
  AreTied-push : (xs : List (Moment X)) (ys : List (Moment Y)) (x : Moment X) (y : Moment Y) → AreTied P xs ys → P x.value y.value → AreTied P (xs ++ x ∷ []) (ys ++ y ∷ [])
  AreTied-push [] [] x y g p = (p, tt)
  AreTied-push [] (z ∷ ys) x y g p = absurd g
  AreTied-push (z ∷ xs) [] x y g p = absurd g
  AreTied-push (z ∷ xs) (w ∷ ys) x y g p = (g.0, AreTied-push xs ys x y g.1 p)

  AreTied-pop : (xs : List (Moment X)) (ys : List (Moment Y)) (x : Moment X) (y : Moment Y) → AreTied P (xs ++ x ∷ []) (ys ++ y ∷ []) → AreTied P xs ys × P x.value y.value
  AreTied-pop [] [] x y g = (tt, g.0)
  AreTied-pop [] (z ∷ []) x y g = absurd g.1
  AreTied-pop [] (z ∷ w ∷ ys) x y g = absurd g.1
  AreTied-pop (z ∷ []) [] x y g = absurd g.1
  AreTied-pop (z ∷ w ∷ xs) [] x y g = absurd g.1
  AreTied-pop (z ∷ xs) (w ∷ ys) x y g = let rest = AreTied-pop xs ys x y g.1 in ((g.0, rest.0), rest.1)

  -- the oldest go together
  pub AreTied-drop : (xs : List (Moment X)) (ys : List (Moment Y)) → AreTied P xs ys → AreTied P (drop 1 xs) (drop 1 ys)
  AreTied-drop [] [] g = tt
  AreTied-drop [] (y ∷ ys) g = absurd g
  AreTied-drop (x ∷ xs) [] g = absurd g
  AreTied-drop (x ∷ xs) (y ∷ ys) g = g.1

  pub AreTied-lengths : (xs : List (Moment X)) (ys : List (Moment Y)) → AreTied P xs ys → length xs ≡ length ys
  AreTied-lengths [] [] g = refl
  AreTied-lengths [] (y ∷ ys) g = absurd g
  AreTied-lengths (x ∷ xs) [] g = absurd g
  AreTied-lengths (x ∷ xs) (y ∷ ys) g = ap suc (AreTied-lengths xs ys g.1)

  -- what one moment does to the two lists and the two values
  pub AreTied-turned : (xs xs' zs zs' : List (Moment X)) (ys ys' ws ws' : List (Moment Y)) (a a' : X) (b b' : Y) → Moves xs zs a xs' zs' a' → Moves ys ws b ys' ws' b' → AreTied P xs ys → AreTied P zs ws → P a b
      → AreTied P xs' ys' × AreTied P zs' ws' × P a' b'
  AreTied-turned xs xs' zs zs' ys ys' ws ws' a a' b b' e f past future now =
      let x : Moment X = record { value = a'; writes = e.0 } in
      let y : Moment Y = record { value = b'; writes = f.0 } in
      let z : Moment X = record { value = a; writes = e.0 } in
      let w : Moment Y = record { value = b; writes = f.0 } in
      let F : List (Moment X) → Type 0 = λ p. AreTied P p (ys' ++ y ∷ []) in
      let G : List (Moment Y) → Type 0 = λ p. AreTied P xs p in
      let popped = AreTied-pop xs' ys' x y (subst F e.1 (subst G f.1 past)) in
      let H : List (Moment X) → Type 0 = λ p. AreTied P p ws' in
      let K : List (Moment Y) → Type 0 = λ p. AreTied P (zs ++ z ∷ []) p in
      (popped.0, subst H (sym e.2) (subst K (sym f.2) (AreTied-push zs ws z w future now)), popped.1)

  -- both undone
  pub IsJoint-undone : (a a' : Timeline X) (b b' : Timeline Y) → IsJoint P a b → Moves a.past a.future a.now a'.past a'.future a'.now → Moves b.past b.future b.now b'.past b'.future b'.now
      → a' ≡ record a { now = a'.now; past = a'.past; future = a'.future; base = a'.now } → b' ≡ record b { now = b'.now; past = b'.past; future = b'.future; base = b'.now }
      → IsJoint P a' b'
  IsJoint-undone a a' b b' k e f ar br =
      let m = AreTied-turned a.past a'.past a.future a'.future b.past b'.past b.future b'.future a.now a'.now b.now b'.now e f k.past k.future k.now in
      record {
        opens = ap (λ s. s.is_open) ar ∙ k.opens ∙ sym (ap (λ s. s.is_open) br);
        now = m.2;
        base = subst (λ z. P z b'.base) (sym (ap (λ s. s.base) ar)) (subst (λ z. P a'.now z) (sym (ap (λ s. s.base) br)) m.2);
        past = m.0;
        future = m.1;
      }

  -- both redone
  pub IsJoint-redone : (a a' : Timeline X) (b b' : Timeline Y) → IsJoint P a b → Moves a.future a.past a.now a'.future a'.past a'.now → Moves b.future b.past b.now b'.future b'.past b'.now
      → a' ≡ record a { now = a'.now; past = a'.past; future = a'.future; base = a'.now } → b' ≡ record b { now = b'.now; past = b'.past; future = b'.future; base = b'.now }
      → IsJoint P a' b'
  IsJoint-redone a a' b b' k e f ar br =
      let m = AreTied-turned a.future a'.future a.past a'.past b.future b'.future b.past b'.past a.now a'.now b.now b'.now e f k.future k.past k.now in
      record {
        opens = ap (λ s. s.is_open) ar ∙ k.opens ∙ sym (ap (λ s. s.is_open) br);
        now = m.2;
        base = subst (λ z. P z b'.base) (sym (ap (λ s. s.base) ar)) (subst (λ z. P a'.now z) (sym (ap (λ s. s.base) br)) m.2);
        past = m.1;
        future = m.0;
      }

  -- both committed
  pub IsJoint-committed : (a : Timeline X) (b : Timeline Y) (m n : ℕ) → IsJoint P a b
      → IsJoint P (record a { past = a.past ++ record { value = a.base; writes = a.writes } ∷ []; future = []; is_open = false; base = a.now; writes = 0; spare_rows = m })
      (record b { past = b.past ++ record { value = b.base; writes = b.writes } ∷ []; future = []; is_open = false; base = b.now; writes = 0; spare_rows = n })
  IsJoint-committed a b m n k = record { opens = refl; now = k.now; base = k.now; past = AreTied-push a.past b.past _ _ k.past k.base; future = tt }

module _ {X Y Z : Type 0} (see : X → Y → Z) (P : X → Y → Type 0) where
  pub joined-push : (xs : List (Moment X)) (ys : List (Moment Y)) (x : Moment X) (y : Moment Y) → AreTied P xs ys → joined see (xs ++ x ∷ []) (ys ++ y ∷ []) ≡ joined see xs ys ++ record { value = see x.value y.value; writes = x.writes + y.writes } ∷ []
  joined-push [] [] x y g = refl
  joined-push [] (z ∷ ys) x y g = absurd g
  joined-push (z ∷ xs) [] x y g = absurd g
  joined-push (z ∷ xs) (w ∷ ys) x y g = ap (λ ts. record { value = see z.value w.value; writes = z.writes + w.writes } ∷ ts) (joined-push xs ys x y g.1)

  pub joined-drop : (xs : List (Moment X)) (ys : List (Moment Y)) → AreTied P xs ys → joined see (drop 1 xs) (drop 1 ys) ≡ drop 1 (joined see xs ys)
  joined-drop [] [] g = refl
  joined-drop [] (y ∷ ys) g = absurd g
  joined-drop (x ∷ xs) [] g = absurd g
  joined-drop (x ∷ xs) (y ∷ ys) g = refl

  pub length-joined : (xs : List (Moment X)) (ys : List (Moment Y)) → AreTied P xs ys → (length (joined see xs ys) ≡ length xs) × (length (joined see xs ys) ≡ length ys)
  length-joined [] [] g = (refl, refl)
  length-joined [] (y ∷ ys) g = absurd g
  length-joined (x ∷ xs) [] g = absurd g
  length-joined (x ∷ xs) (y ∷ ys) g = let r = length-joined xs ys g.1 in (ap suc r.0, ap suc r.1)

  -- the moments of both are moments of the whole
  pub Moves-joined : (xs xs' zs zs' : List (Moment X)) (ys ys' ws ws' : List (Moment Y)) (a a' : X) (b b' : Y) → Moves xs zs a xs' zs' a' → Moves ys ws b ys' ws' b' → AreTied P xs' ys' → AreTied P zs ws
      → Moves (joined see xs ys) (joined see zs ws) (see a b) (joined see xs' ys') (joined see zs' ws') (see a' b')
  Moves-joined xs xs' zs zs' ys ys' ws ws' a a' b b' e f past future =
      (e.0 + f.0, (λ i. joined see (e.1 i) (f.1 i)) ∙ joined-push xs' ys' (record { value = a'; writes = e.0 }) (record { value = b'; writes = f.0 }) past, (λ i. joined see (e.2 i) (f.2 i)) ∙ joined-push zs ws (record { value = a; writes = e.0 }) (record { value = b; writes = f.0 }) future)
