-- Lists of keys, and rows that are linked in their order.
use Rattle.std.proofs.Common.{◌≡◌, ◌≢◌, ◌⊎◌, ℕ, zero, suc, ◌≤◌, length, List, [], ◌∷◌, ◌++◌, Option, Some, None, refl, sym, ap, subst, ◌∙◌, inl, inr, arith}
use Rattle.std.proofs.lemmas.Bool.{cases_eq}
use Rattle.row_chains.specs.Chains.{first_or, last_or, Has, AreApart, AreLinked, with_next, with_prev, walk, next_of}
use Rattle.row_chains.specs.declared.link.Link.{Link}

pub same_some : {X : Type 0} (a b : X) → Some a ≡ Some b → a ≡ b
same_some a b e = cc

pub none_some : {X : Type 0} (a : X) → None ≡ Some a → ⊥
none_some a e = cc

pub is_key : (o : Option ℕ) (k : ℕ) → (o ≡ Some k) ⊎ (o ≡ Some k → ⊥)
is_key None k = inr (λ e. none_some k e)
is_key (Some q) k = elim (cases_eq q k) [ inl e ↦ inl (ap (λ z. Some z) e) | inr d ↦ inr (λ e. d (same_some q k e)) ]

pub Has-append_left : (x : ℕ) (xs ys : List ℕ) → Has x xs → Has x (xs ++ ys)
Has-append_left x [] ys h = absurd h
Has-append_left x (k ∷ xs) ys h = elim h [ inl e ↦ inl e | inr t ↦ inr (Has-append_left x xs ys t) ]

pub Has-append_right : (x : ℕ) (xs ys : List ℕ) → Has x ys → Has x (xs ++ ys)
Has-append_right x [] ys h = h
Has-append_right x (k ∷ xs) ys h = inr (Has-append_right x xs ys h)

pub Has-append_cases : (x : ℕ) (xs ys : List ℕ) → Has x (xs ++ ys) → Has x xs ⊎ Has x ys
Has-append_cases x [] ys h = inr h
Has-append_cases x (k ∷ xs) ys h = elim h [
  | inl e ↦ inl (inl e)
  | inr t ↦ elim (Has-append_cases x xs ys t) [ inl a ↦ inl (inr a) | inr b ↦ inr b ]
]

-- a key in a list has what stands before it and behind it
pub Has-split : (x : ℕ) (ks : List ℕ) → Has x ks → (front : List ℕ) × ((back : List ℕ) × (ks ≡ front ++ x ∷ back))
Has-split x [] h = absurd h
Has-split x (k ∷ ks) h = elim h [
  | inl e ↦ ([], (ks, ap (λ q. q ∷ ks) e))
  | inr t ↦ let s = Has-split x ks t in (k ∷ s.0, (s.1.0, ap (λ qs. k ∷ qs) s.1.1))
]

-- what a list has on one side of a place it has not on the other, nor at it
pub AreApart-middle : (front back : List ℕ) (x : ℕ) → AreApart (front ++ x ∷ back) → (Has x front → ⊥) × ((Has x back → ⊥) × AreApart (front ++ back))
AreApart-middle [] back x d = (λ h. h, (d.0, d.1))
AreApart-middle (k ∷ front) back x d =
    let rest = AreApart-middle front back x d.1 in (
      λ h. elim h [ inl e ↦ d.0 (Has-append_right k front (x ∷ back) (inl (sym e))) | inr t ↦ rest.0 t ],
      (
        rest.1.0,
        (
          λ h. d.0 (elim (Has-append_cases k front back h) [ inl a ↦ Has-append_left k front (x ∷ back) a | inr b ↦ Has-append_right k front (x ∷ back) (inr b) ]),
          rest.1.1,
        ),
      ),
    )

pub AreApart-parts : (xs ys : List ℕ) → AreApart (xs ++ ys) → AreApart xs × (AreApart ys × ((x : ℕ) → Has x xs → Has x ys → ⊥))
AreApart-parts [] ys d = (tt, (d, λ x h. absurd h))
AreApart-parts (k ∷ xs) ys d =
    let rest = AreApart-parts xs ys d.1 in (
      (λ h. d.0 (Has-append_left k xs ys h), rest.0),
      (rest.1.0, λ x h b. elim h [ inl e ↦ d.0 (Has-append_right k xs ys (subst (λ z. Has z ys) (sym e) b)) | inr t ↦ rest.1.1 x t b ]),
    )

pub AreApart-last : (xs : List ℕ) (key : ℕ) → AreApart xs → (Has key xs → ⊥) → AreApart (xs ++ key ∷ [])
AreApart-last [] key d n = ((λ h. h), tt)
AreApart-last (x ∷ xs) key d n = (
  (λ h. elim (Has-append_cases x xs (key ∷ []) h) [ inl t ↦ d.0 t | inr t ↦ elim t [ inl e ↦ n (inl (sym e)) | inr f ↦ absurd f ] ]),
  AreApart-last xs key d.1 (λ h. n (inr h)),
)

pub last_or-append : (before : Option ℕ) (xs : List ℕ) (key : ℕ) → last_or before (xs ++ key ∷ []) ≡ Some key
last_or-append before [] key = refl
last_or-append before (x ∷ xs) key = last_or-append (Some x) xs key

last_Has_some : (k : ℕ) (ks : List ℕ) (q : ℕ) → last_or (Some k) ks ≡ Some q → Has q (k ∷ ks)
last_Has_some k [] q e = inl (cc)
last_Has_some k (x ∷ ks) q e = inr (last_Has_some x ks q e)

pub first_Has : (ks : List ℕ) (q : ℕ) → first_or ks None ≡ Some q → Has q ks
first_Has [] q e = absurd (cc)
first_Has (k ∷ ks) q e = inl (cc)

pub last_Has : (ks : List ℕ) (q : ℕ) → last_or None ks ≡ Some q → Has q ks
last_Has [] q e = absurd (cc)
last_Has (k ∷ ks) q e = last_Has_some k ks q e

module _ (owner : ℕ) where
  -- a linked list's rows are the owner's
  pub AreLinked-row : (row : ℕ → Option Link) (before : Option ℕ) (ks : List ℕ) (after : Option ℕ) (x : ℕ) → AreLinked row owner before ks after → Has x ks → (link : Link) × ((row x ≡ Some link) × (link.owner ≡ owner))
  AreLinked-row row before [] after x linked h = absurd h
  AreLinked-row row before (k ∷ ks) after x linked h = elim h [
    | inl e ↦ (record { owner = owner; prev = before; next = first_or ks after }, (ap row (sym e) ∙ linked.0, refl))
    | inr t ↦ AreLinked-row row (Some k) ks after x linked.1 t
  ]

  -- what leaves the rows of a list leaves its links
  pub AreLinked-kept : (row row' : ℕ → Option Link) (before : Option ℕ) (ks : List ℕ) (after : Option ℕ) → ((x : ℕ) → Has x ks → row' x ≡ row x) → AreLinked row owner before ks after → AreLinked row' owner before ks after
  AreLinked-kept row row' before [] after same linked = tt
  AreLinked-kept row row' before (k ∷ ks) after same linked = (same k (inl refl) ∙ linked.0, AreLinked-kept row row' (Some k) ks after (λ x h. same x (inr h)) linked.1)

  first_or-append : (xs ys : List ℕ) (after : Option ℕ) → first_or (xs ++ ys) after ≡ first_or xs (first_or ys after)
  first_or-append [] ys after = refl
  first_or-append (x ∷ xs) ys after = refl

  -- two lists that are linked one after the other
  pub AreLinked-append : (row : ℕ → Option Link) (before : Option ℕ) (xs ys : List ℕ) (after : Option ℕ) → AreLinked row owner before xs (first_or ys after) → AreLinked row owner (last_or before xs) ys after → AreLinked row owner before (xs ++ ys) after
  AreLinked-append row before [] ys after p q = q
  AreLinked-append row before (x ∷ xs) ys after p q =
      (p.0 ∙ ap (λ n. Some (record { owner = owner; prev = before; next = n })) (sym (first_or-append xs ys after)), AreLinked-append row (Some x) xs ys after p.1 q)

  pub AreLinked-parts : (row : ℕ → Option Link) (before : Option ℕ) (xs ys : List ℕ) (after : Option ℕ) → AreLinked row owner before (xs ++ ys) after → AreLinked row owner before xs (first_or ys after) × AreLinked row owner (last_or before xs) ys after
  AreLinked-parts row before [] ys after p = (tt, p)
  AreLinked-parts row before (x ∷ xs) ys after p =
      let rest = AreLinked-parts row (Some x) xs ys after p.1 in
      ((p.0 ∙ ap (λ n. Some (record { owner = owner; prev = before; next = n })) (first_or-append xs ys after), rest.0), rest.1)

  -- the last row of a list leads elsewhere
  pub AreLinked-renext : (row row' : ℕ → Option Link) (before : Option ℕ) (ks : List ℕ) (after to : Option ℕ) → AreApart ks
      → ((p : ℕ) → last_or None ks ≡ Some p → row' p ≡ with_next to (row p))
      → ((q : ℕ) → Has q ks → (last_or None ks ≡ Some q → ⊥) → row' q ≡ row q)
      → AreLinked row owner before ks after → AreLinked row' owner before ks to
  AreLinked-renext row row' before [] after to d last rest linked = tt
  AreLinked-renext row row' before (k ∷ []) after to d last rest linked = (last k refl ∙ ap (λ o. with_next to o) linked.0, tt)
  AreLinked-renext row row' before (k ∷ x ∷ ks) after to d last rest linked = (
    rest k (inl refl) (λ e. d.0 (last_Has_some x ks k e)) ∙ linked.0,
    AreLinked-renext row row' (Some k) (x ∷ ks) after to d.1 last (λ q h. rest q (inr h)) linked.1,
  )

  -- the first row of a list follows another
  pub AreLinked-reprev : (row row' : ℕ → Option Link) (before : Option ℕ) (ks : List ℕ) (from : Option ℕ) → AreApart ks
      → ((n : ℕ) → first_or ks None ≡ Some n → row' n ≡ with_prev from (row n))
      → ((q : ℕ) → Has q ks → (first_or ks None ≡ Some q → ⊥) → row' q ≡ row q)
      → AreLinked row owner before ks None → AreLinked row' owner from ks None
  AreLinked-reprev row row' before [] from d first rest linked = tt
  AreLinked-reprev row row' before (k ∷ ks) from d first rest linked = (
    first k refl ∙ ap (λ o. with_prev from o) linked.0,
    AreLinked-kept row row' (Some k) ks None (λ q h. rest q (inr h) (λ e. d.0 (subst (λ z. Has z ks) (sym (same_some k q e)) h))) linked.1,
  )

  -- a walk of enough steps gives the list
  pub walk-linked : (row : ℕ → Option Link) (before : Option ℕ) (ks : List ℕ) (steps : ℕ) → AreLinked row owner before ks None → length ks ≤ steps → walk row steps (first_or ks None) ≡ ks
  walk-linked row before [] zero linked few = refl
  walk-linked row before [] (suc steps) linked few = refl
  walk-linked row before (k ∷ ks) zero linked few = absurd (omega arith)
  walk-linked row before (k ∷ ks) (suc steps) linked few =
      ap (λ xs. k ∷ xs) (ap (λ o. walk row steps (next_of o)) linked.0 ∙ walk-linked row (Some k) ks steps linked.1 (omega arith))

-- a row that is not the owner's is in none of its lists
pub not_in : (row : ℕ → Option Link) (owner other : ℕ) (before : Option ℕ) (ks : List ℕ) (after : Option ℕ) (x : ℕ) (link : Link) → AreLinked row other before ks after → row x ≡ Some link → link.owner ≡ owner → other ≢ owner → Has x ks → ⊥
not_in row owner other before ks after x link linked at of differs h =
    let there = AreLinked-row other row before ks after x linked h in
    differs (sym there.1.1 ∙ ap (λ l. l.owner) (same_some there.0 link (sym there.1.0 ∙ at)) ∙ of)

-- a key with no row is in no list
pub absent_in : (row : ℕ → Option Link) (owner : ℕ) (before : Option ℕ) (ks : List ℕ) (after : Option ℕ) (x : ℕ) → AreLinked row owner before ks after → row x ≡ None → Has x ks → ⊥
absent_in row owner before ks after x linked none h =
    let there = AreLinked-row owner row before ks after x linked h in
    none_some there.0 (sym none ∙ there.1.0)

-- a row with another neighbour was there, of the same owner

pub next_owner : (to : Option ℕ) (o : Option Link) (link : Link) → with_next to o ≡ Some link → (l : Link) × ((o ≡ Some l) × (l.owner ≡ link.owner))
next_owner to None link e = absurd (cc)
next_owner to (Some l) link e = (l, (refl, ap (λ (x : Link). x.owner) (same_some (record { owner = l.owner; prev = l.prev; next = to }) link e)))

pub prev_owner : (from : Option ℕ) (o : Option Link) (link : Link) → with_prev from o ≡ Some link → (l : Link) × ((o ≡ Some l) × (l.owner ≡ link.owner))
prev_owner from None link e = absurd (cc)
prev_owner from (Some l) link e = (l, (refl, ap (λ (x : Link). x.owner) (same_some (record { owner = l.owner; prev = from; next = l.next }) link e)))
