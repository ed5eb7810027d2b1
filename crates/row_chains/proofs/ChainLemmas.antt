-- All chains of a kind, after a row has gone last in one or left one.
use Rattle.std.proofs.Common.{◌≡◌, ◌≢◌, ◌⊎◌, ℕ, List, [], ◌∷◌, ◌++◌, Option, Some, None, IsSome, is_some, true, false, refl, sym, ap, subst, ◌∙◌, inl, inr}
use Rattle.std.proofs.lemmas.Bool.{cases_eq}
use Rattle.row_chains.specs.Chains.{first_or, last_or, Has, AreApart, AreLinked, IsChain, AreChains, with_next, with_prev, or_key, ends_with, unless_there, ends_without}
use Rattle.row_chains.specs.declared.link.Link.{Link}
use Rattle.row_chains.specs.declared.link.Ends.{Ends}
use Rattle.row_chains.proofs.KeyLemmas.{same_some, none_some, is_key, Has-append_left, Has-append_right, Has-append_cases, Has-split, AreApart-middle, AreApart-parts, AreApart-last, last_or-append, first_Has, last_Has, AreLinked-row, AreLinked-kept, AreLinked-append, AreLinked-parts, AreLinked-renext, AreLinked-reprev, not_in, absent_in, next_owner, prev_owner}

-- one owner has other ends
pub record EndsChange (ends_of ends_of' : ℕ → Option Ends) (owner : ℕ) (before after : Ends) : Type 0 where
  pub was : ends_of owner ≡ Some before
  pub becomes : ends_of' owner ≡ Some after
  pub others : (o : ℕ) → o ≢ owner → ends_of' o ≡ ends_of o

-- a row comes behind the last one of a chain
pub record Appends (row row' : ℕ → Option Link) (owner key : ℕ) (last : Option ℕ) : Type 0 where
  pub absent : row key ≡ None
  pub new : row' key ≡ Some (record { owner = owner; prev = last; next = None })
  pub left : (p : ℕ) → last ≡ Some p → row' p ≡ with_next (Some key) (row p)
  pub rest : (q : ℕ) → q ≢ key → (last ≡ Some q → ⊥) → row' q ≡ row q

-- a row leaves its chain, and its neighbours are each other's
pub record Detaches (row row' : ℕ → Option Link) (key : ℕ) (link : Link) : Type 0 where
  pub was : row key ≡ Some link
  pub gone : row' key ≡ None
  pub left : (p : ℕ) → link.prev ≡ Some p → row' p ≡ with_next link.next (row p)
  pub right : (n : ℕ) → link.next ≡ Some n → row' n ≡ with_prev link.prev (row n)
  pub rest : (q : ℕ) → q ≢ key → (link.prev ≡ Some q → ⊥) → (link.next ≡ Some q → ⊥) → row' q ≡ row q

module _ (row row' : ℕ → Option Link) (owner key : ℕ) (ends : Ends) (u : Appends row row' owner key ends.last) where
  -- a row that is there was there, of the same owner, or is the new one
  Appends-had : (k : ℕ) (link : Link) → k ≢ key → row' k ≡ Some link → (l : Link) × ((row k ≡ Some l) × (l.owner ≡ link.owner))
  Appends-had k link apart at = elim (is_key ends.last k) [
    | inl e ↦ next_owner (Some key) (row k) link (sym (u.left k e) ∙ at)
    | inr d ↦ (link, (sym (u.rest k apart d) ∙ at, refl))
  ]

  not_new : (o : ℕ) (ks : List ℕ) → AreLinked row o None ks None → (k : ℕ) → Has k ks → k ≡ key → ⊥
  not_new o ks linked k h e = absent_in row o None ks None k linked (ap row e ∙ u.absent) h

  begins_with : (first : Option ℕ) (xs : List ℕ) → first ≡ first_or xs None → or_key first key ≡ first_or (xs ++ key ∷ []) None
  begins_with first [] e = ap (λ o. or_key o key) e
  begins_with first (x ∷ xs) e = ap (λ o. or_key o key) e

  module _ (ks : List ℕ) (c : IsChain row owner ends ks) where
    -- the owner's chain has the key last
    pub IsChain-appended : IsChain row' owner (ends_with ends key) (ks ++ key ∷ [])
    IsChain-appended = record {
      begins = begins_with ends.first ks c.begins;
      stops = sym (last_or-append None ks key);
      linked = AreLinked-append owner row' None ks (key ∷ []) None
          (AreLinked-renext owner row row' None ks None (Some key) c.apart
          (λ p e. u.left p (c.stops ∙ e))
          (λ q h d. u.rest q (not_new owner ks c.linked q h) (λ e. d (sym c.stops ∙ e)))
          c.linked)
          (u.new ∙ ap (λ p. Some (record { owner = owner; prev = p; next = None })) c.stops, tt);
      apart = AreApart-last ks key c.apart (λ h. not_new owner ks c.linked key h refl);
      whole = λ k link at of. elim (cases_eq k key) [
        | inl e ↦ Has-append_right k ks (key ∷ []) (inl (sym e))
        | inr d ↦ let h = Appends-had k link d at in Has-append_left k ks (key ∷ []) (c.whole k h.0 h.1.0 (h.1.1 ∙ of))
      ];
    }

    -- the others' stay
    pub IsChain-appended_other : (o : ℕ) (other : Ends) (xs : List ℕ) → o ≢ owner → IsChain row o other xs → IsChain row' o other xs
    IsChain-appended_other o other xs differs d = record {
      begins = d.begins;
      stops = d.stops;
      linked = AreLinked-kept o row row' None xs None (λ x h. u.rest x (not_new o xs d.linked x h)
          (λ e. let mine = AreLinked-row owner row None ks None x c.linked (last_Has ks x (sym c.stops ∙ e)) in not_in row owner o None xs None x mine.0 d.linked mine.1.0 mine.1.1 differs h)) d.linked;
      apart = d.apart;
      whole = λ k link at of. elim (cases_eq k key) [
        | inl e ↦ absurd (differs (sym of ∙ ap (λ (l : Link). l.owner) (same_some link (record { owner = owner; prev = ends.last; next = None }) (sym at ∙ ap row' e ∙ u.new))))
        | inr apart ↦ let h = Appends-had k link apart at in d.whole k h.0 h.1.0 (h.1.1 ∙ of)
      ];
    }

-- all chains, after a row has gone last in one
pub AreChains-appended : (row row' : ℕ → Option Link) (ends_of ends_of' : ℕ → Option Ends) (owner key : ℕ) (ends : Ends) → AreChains row ends_of → EndsChange ends_of ends_of' owner ends (ends_with ends key) → Appends row row' owner key ends.last → AreChains row' ends_of'
AreChains-appended row row' ends_of ends_of' owner key ends chains w u =
    let mine = chains.chain owner ends w.was in
    record {
      chain = λ o other at. elim (cases_eq o owner) [
        | inl e ↦
            let is : ends_with ends key ≡ other = same_some (ends_with ends key) other (sym w.becomes ∙ ap ends_of' (sym e) ∙ at) in
            (mine.0 ++ key ∷ [], subst (λ z. IsChain row' o z (mine.0 ++ key ∷ [])) is (subst (λ z. IsChain row' z (ends_with ends key) (mine.0 ++ key ∷ [])) (sym e) (IsChain-appended row row' owner key ends u mine.0 mine.1)))
        | inr d ↦
            let c = chains.chain o other (sym (w.others o d) ∙ at) in
            (c.0, IsChain-appended_other row row' owner key ends u mine.0 mine.1 o other c.0 d c.1)
      ];
      owned = λ k link at. elim (cases_eq link.owner owner) [
        | inl e ↦ ap (λ o. is_some (ends_of' o)) e ∙ ap is_some w.becomes
        | inr d ↦ ap is_some (w.others link.owner d) ∙ elim (cases_eq k key) [
          | inl e ↦ absurd (d (ap (λ (l : Link). l.owner) (same_some link (record { owner = owner; prev = ends.last; next = None }) (sym at ∙ ap row' e ∙ u.new))))
          | inr apart ↦ let h = Appends-had row row' owner key ends u k link apart at in ap (λ o. is_some (ends_of o)) (sym h.1.1) ∙ chains.owned k h.0 h.1.0
        ]
      ];
    }

-- where a row stands in its chain
pub record IsPlaced (row : ℕ → Option Link) (ends_of : ℕ → Option Ends) (key : ℕ) (link : Link) : Type 0 where
  pub ends : Ends
  pub front : List ℕ
  pub back : List ℕ
  pub held : ends_of link.owner ≡ Some ends
  pub chain : IsChain row link.owner ends (front ++ key ∷ back)
  pub prev_is : link.prev ≡ last_or None front
  pub next_is : link.next ≡ first_or back None

pub placed : (row : ℕ → Option Link) (ends_of : ℕ → Option Ends) (key : ℕ) (link : Link) → AreChains row ends_of → row key ≡ Some link → IsPlaced row ends_of key link
placed row ends_of key link chains at =
    let h = there (ends_of link.owner) (chains.owned key link at) in
    let c = chains.chain link.owner h.0 h.1 in
    let s = Has-split key c.0 (c.1.whole key link at refl) in
    let chain : IsChain row link.owner h.0 (s.0 ++ key ∷ s.1.0) = subst (λ ks. IsChain row link.owner h.0 ks) s.1.1 c.1 in
    let here : row key ≡ Some (record { owner = link.owner; prev = last_or None s.0; next = first_or s.1.0 None }) = (AreLinked-parts link.owner row None s.0 (key ∷ s.1.0) None chain.linked).1.0 in
    let is : link ≡ record { owner = link.owner; prev = last_or None s.0; next = first_or s.1.0 None } = same_some link (record { owner = link.owner; prev = last_or None s.0; next = first_or s.1.0 None }) (sym at ∙ here) in
    record {
      ends = h.0;
      front = s.0;
      back = s.1.0;
      held = h.1;
      chain = chain;
      prev_is = ap (λ (l : Link). l.prev) is;
      next_is = ap (λ (l : Link). l.next) is;
    }
  where
    there : (o : Option Ends) → IsSome o → (x : Ends) × (o ≡ Some x)
    there None h = absurd (cc)
    there (Some x) h = (x, refl)

-- the neighbours are rows of the same owner, neither the row nor each other
module _ (row : ℕ → Option Link) (ends_of : ℕ → Option Ends) (key : ℕ) (link : Link) (at : IsPlaced row ends_of key link) where
  pub prev_row : (p : ℕ) → link.prev ≡ Some p → (l : Link) × ((row p ≡ Some l) × (l.owner ≡ link.owner))
  prev_row p e = AreLinked-row link.owner row None (at.front ++ key ∷ at.back) None p at.chain.linked (Has-append_left p at.front (key ∷ at.back) (last_Has at.front p (sym at.prev_is ∙ e)))

  pub next_row : (n : ℕ) → link.next ≡ Some n → (l : Link) × ((row n ≡ Some l) × (l.owner ≡ link.owner))
  next_row n e = AreLinked-row link.owner row None (at.front ++ key ∷ at.back) None n at.chain.linked (Has-append_right n at.front (key ∷ at.back) (inr (first_Has at.back n (sym at.next_is ∙ e))))

  pub not_prev : (p : ℕ) → link.prev ≡ Some p → p ≢ key
  not_prev p e same = (AreApart-middle at.front at.back key at.chain.apart).0 (subst (λ z. Has z at.front) same (last_Has at.front p (sym at.prev_is ∙ e)))

  pub not_next : (n : ℕ) → link.next ≡ Some n → n ≢ key
  not_next n e same = (AreApart-middle at.front at.back key at.chain.apart).1.0 (subst (λ z. Has z at.back) same (first_Has at.back n (sym at.next_is ∙ e)))

  pub not_both : (q : ℕ) → link.prev ≡ Some q → link.next ≡ Some q → ⊥
  not_both q e f =
      (AreApart-parts at.front at.back (AreApart-middle at.front at.back key at.chain.apart).1.1).1.1 q (last_Has at.front q (sym at.prev_is ∙ e)) (first_Has at.back q (sym at.next_is ∙ f))

-- the ends after a key in the middle is gone

first_without : (front back : List ℕ) (key : ℕ) (prev next first : Option ℕ) → prev ≡ last_or None front → next ≡ first_or back None → first ≡ first_or (front ++ key ∷ back) None → unless_there prev next first ≡ first_or (front ++ back) None
first_without [] back key prev next first p n f = ap (λ o. unless_there o next first) p ∙ n
first_without (x ∷ front) back key prev next first p n f = ap (λ o. unless_there o next first) p ∙ later x front ∙ f
  where
    later : (x : ℕ) (xs : List ℕ) → unless_there (last_or (Some x) xs) next first ≡ first
    later x [] = refl
    later x (y ∷ xs) = later y xs

last_nil : (before : Option ℕ) (front : List ℕ) → last_or before (front ++ []) ≡ last_or before front
last_nil before [] = refl
last_nil before (x ∷ front) = last_nil (Some x) front

last_two : (before : Option ℕ) (front : List ℕ) (key x : ℕ) (back : List ℕ) → last_or before (front ++ key ∷ x ∷ back) ≡ last_or before (front ++ x ∷ back)
last_two before [] key x back = refl
last_two before (y ∷ front) key x back = last_two (Some y) front key x back

last_without : (front back : List ℕ) (key : ℕ) (prev next last : Option ℕ) → prev ≡ last_or None front → next ≡ first_or back None → last ≡ last_or None (front ++ key ∷ back) → unless_there next prev last ≡ last_or None (front ++ back)
last_without front [] key prev next last p n l = ap (λ o. unless_there o prev last) n ∙ p ∙ sym (last_nil None front)
last_without front (x ∷ back) key prev next last p n l = ap (λ o. unless_there o prev last) n ∙ l ∙ last_two None front key x back

module _ (row row' : ℕ → Option Link) (ends_of : ℕ → Option Ends) (key : ℕ) (link : Link) (at : IsPlaced row ends_of key link) (u : Detaches row row' key link) where
  -- a row that is left was there, of the same owner
  Detaches-had : (k : ℕ) (l : Link) → row' k ≡ Some l → (k ≢ key) × ((l' : Link) × ((row k ≡ Some l') × (l'.owner ≡ l.owner)))
  Detaches-had k l there =
      let differs : k ≢ key = λ e. none_some l (sym u.gone ∙ ap row' (sym e) ∙ there) in (
        differs,
        elim (is_key link.prev k) [
          | inl e ↦ next_owner link.next (row k) l (sym (u.left k e) ∙ there)
          | inr not_prev ↦ elim (is_key link.next k) [
            | inl e ↦ prev_owner link.prev (row k) l (sym (u.right k e) ∙ there)
            | inr not_next ↦ (l, (sym (u.rest k differs not_prev not_next) ∙ there, refl))
          ]
        ],
      )

  -- its chain without the key
  pub IsChain-detached : IsChain row' link.owner (ends_without at.ends link) (at.front ++ at.back)
  IsChain-detached =
      let parts = AreLinked-parts link.owner row None at.front (key ∷ at.back) None at.chain.linked in
      let d = AreApart-middle at.front at.back key at.chain.apart in
      let fb = AreApart-parts at.front at.back d.1.1 in
      record {
        begins = first_without at.front at.back key link.prev link.next at.ends.first at.prev_is at.next_is at.chain.begins;
        stops = last_without at.front at.back key link.prev link.next at.ends.last at.prev_is at.next_is at.chain.stops;
        linked = AreLinked-append link.owner row' None at.front at.back None
            (subst (λ z. AreLinked row' link.owner None at.front z) at.next_is
            (AreLinked-renext link.owner row row' None at.front (Some key) link.next fb.0
            (λ p e. u.left p (at.prev_is ∙ e))
            (λ q h not_last. u.rest q (λ e. d.0 (subst (λ z. Has z at.front) e h)) (λ e. not_last (sym at.prev_is ∙ e)) (λ e. fb.1.1 q h (first_Has at.back q (sym at.next_is ∙ e))))
            parts.0))
            (subst (λ z. AreLinked row' link.owner z at.back None) at.prev_is
            (AreLinked-reprev link.owner row row' (Some key) at.back link.prev fb.1.0
            (λ n e. u.right n (at.next_is ∙ e))
            (λ q h not_first. u.rest q (λ e. d.1.0 (subst (λ z. Has z at.back) e h)) (λ e. fb.1.1 q (last_Has at.front q (sym at.prev_is ∙ e)) h) (λ e. not_first (sym at.next_is ∙ e)))
            parts.1.1));
        apart = d.1.1;
        whole = λ k l there of.
            let had = Detaches-had k l there in
            elim (Has-append_cases k at.front (key ∷ at.back) (at.chain.whole k had.1.0 had.1.1.0 (had.1.1.1 ∙ of))) [
              | inl a ↦ Has-append_left k at.front at.back a
              | inr b ↦ elim b [ inl e ↦ absurd (had.0 (sym e)) | inr c ↦ Has-append_right k at.front at.back c ]
            ];
      }

  -- the others' stay
  pub IsChain-detached_other : (o : ℕ) (other : Ends) (xs : List ℕ) → o ≢ link.owner → IsChain row o other xs → IsChain row' o other xs
  IsChain-detached_other o other xs differs d = record {
    begins = d.begins;
    stops = d.stops;
    linked = AreLinked-kept o row row' None xs None (λ x h. u.rest x
        (λ e. not_in row link.owner o None xs None key link d.linked u.was refl differs (subst (λ z. Has z xs) e h))
        (λ e. let p = prev_row row ends_of key link at x e in not_in row link.owner o None xs None x p.0 d.linked p.1.0 p.1.1 differs h)
        (λ e. let n = next_row row ends_of key link at x e in not_in row link.owner o None xs None x n.0 d.linked n.1.0 n.1.1 differs h)) d.linked;
    apart = d.apart;
    whole = λ k l there of. let had = Detaches-had k l there in d.whole k had.1.0 had.1.1.0 (had.1.1.1 ∙ of);
  }

  -- all chains, after a row has left one
  pub AreChains-detached : (ends_of' : ℕ → Option Ends) → AreChains row ends_of → EndsChange ends_of ends_of' link.owner at.ends (ends_without at.ends link) → AreChains row' ends_of'
  AreChains-detached ends_of' chains w =
      record {
        chain = λ o other there. elim (cases_eq o link.owner) [
          | inl e ↦
              let is : ends_without at.ends link ≡ other = same_some (ends_without at.ends link) other (sym w.becomes ∙ ap ends_of' (sym e) ∙ there) in
              (at.front ++ at.back, subst (λ z. IsChain row' o z (at.front ++ at.back)) is (subst (λ z. IsChain row' z (ends_without at.ends link) (at.front ++ at.back)) (sym e) IsChain-detached))
          | inr d ↦
              let c = chains.chain o other (sym (w.others o d) ∙ there) in
              (c.0, IsChain-detached_other o other c.0 d c.1)
        ];
        owned = λ k l there. elim (cases_eq l.owner link.owner) [
          | inl e ↦ ap (λ o. is_some (ends_of' o)) e ∙ ap is_some w.becomes
          | inr d ↦
              let had = Detaches-had k l there in
              ap is_some (w.others l.owner d) ∙ ap (λ o. is_some (ends_of o)) (sym had.1.1.1) ∙ chains.owned k had.1.0 had.1.1.0
        ];
      }

module _ (row : ℕ → Option Link) (ends_of ends_of' : ℕ → Option Ends) (owner : ℕ) (others : (o : ℕ) → o ≢ owner → ends_of' o ≡ ends_of o) (chains : AreChains row ends_of) where
  -- an owner comes, whose chain is empty
  pub AreChains-owner : ends_of owner ≡ None → ends_of' owner ≡ Some (record { first = None; last = None }) → AreChains row ends_of'
  AreChains-owner absent new = record {
    chain = λ o ends at. elim (cases_eq o owner) [
      | inl e ↦
          let is : record { first = None; last = None } ≡ ends = same_some (record { first = None; last = None }) ends (sym new ∙ ap ends_of' (sym e) ∙ at) in (
            [],
            record {
              begins = ap (λ (z : Ends). z.first) (sym is);
              stops = ap (λ (z : Ends). z.last) (sym is);
              linked = tt;
              apart = tt;
              whole = λ k link there of. absurd (unowned k link there (of ∙ e));
            },
          )
      | inr d ↦ chains.chain o ends (sym (others o d) ∙ at)
    ];
    owned = λ k link there. elim (cases_eq link.owner owner) [
      | inl e ↦ absurd (unowned k link there e)
      | inr d ↦ ap is_some (others link.owner d) ∙ chains.owned k link there
    ];
  }
    where
      never : false ≡ true → ⊥
      never e = cc

      unowned : (k : ℕ) (link : Link) → row k ≡ Some link → link.owner ≡ owner → ⊥
      unowned k link there e = never (sym (ap is_some absent) ∙ ap (λ o. is_some (ends_of o)) (sym e) ∙ chains.owned k link there)

  -- an owner goes, whose chain is empty
  pub AreChains-no_owner : (ends : Ends) → ends_of owner ≡ Some ends → ends.first ≡ None → ends_of' owner ≡ None → AreChains row ends_of'
  AreChains-no_owner ends was empty gone = record {
    chain = λ o other at. elim (cases_eq o owner) [
      | inl e ↦ absurd (none_some other (sym gone ∙ ap ends_of' (sym e) ∙ at))
      | inr d ↦ chains.chain o other (sym (others o d) ∙ at)
    ];
    owned = λ k link there. elim (cases_eq link.owner owner) [
      | inl e ↦ absurd (let c = chains.chain owner ends was in nothing c.0 (sym c.1.begins ∙ empty) k (c.1.whole k link there e))
      | inr d ↦ ap is_some (others link.owner d) ∙ chains.owned k link there
    ];
  }
    where
      nothing : (ks : List ℕ) → first_or ks None ≡ None → (k : ℕ) → Has k ks → ⊥
      nothing [] e k h = h
      nothing (x ∷ ks) e k h = none_some x (sym e)
