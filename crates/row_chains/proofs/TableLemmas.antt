-- Chains of a table's rows, as lists of keys and as lists of what the rows show.
use Rattle.std.proofs.Common.{◌≡◌, ◌≢◌, ◌⊎◌, ℕ, zero, suc, ◌≤◌, ◌<◌, ◌==◌, ◌||◌, not, Bool, true, false, cond, length, List, [], ◌∷◌, ◌++◌, map, filter, find, Option, Some, None, option_map, option_and_then, is_some, refl, sym, ap, subst, ◌∙◌, inl, inr, arith}
use Rattle.std.proofs.lemmas.Grind.{common_steps}
use Rattle.std.proofs.lemmas.Bool.{cases_eq}
use Rattle.std.proofs.lemmas.List.{length-map}
use Rattle.std.proofs.lemmas.List.Elements.{filter_map-append}
use Rattle.std.proofs.lemmas.Map.Made.{length-le_from_is_member}
use Rattle.std.specs.List.{IsDistinct, AllByRecursion, filter_map, cons_option}
use Rattle.std.specs.Set.{is_member}
use Rattle.std.specs.Ordering.{nat_cmp, eq_by_cmp}
use Rattle.std.specs.Cmp.{nat_cmp_total, eq_by_cmp_equiv, unsigned_tied}
use Rattle.std.specs.FinMap as rows
use Rattle.std.specs.FinMap.{contains_key-keys, len-entries}
use Rattle.timeline.specs.Maps.{put}
use Rattle.timeline.proofs.MapLemmas.{get-put_same, get-put_other, put_same}
use Rattle.undo_slots.specs.Slots.{Rows, nat_order}
use Rattle.row_chains.specs.declared.link.Link.{Link}
use Rattle.row_chains.specs.declared.link.Ends.{Ends}
use Rattle.row_chains.specs.Chains.{first_or, Has, AreApart, AreLinked, IsChain, AreChains, with_next, with_prev, next_of, walk, ends_with, ends_without, unless_there}
use Rattle.row_chains.specs.Rows.{ChainRows, ChainHolders, IsWay, row_is_numbered, is_numbered, links, keys, listed, lead_at, follow_at}
use Rattle.row_chains.proofs.KeyLemmas.{same_some, none_some, is_key, last_Has, AreLinked-row, absent_in, walk-linked, AreApart-middle, Has-append_left, Has-append_right, Has-append_cases}
use Rattle.row_chains.proofs.ChainLemmas.{EndsChange, Appends, Detaches, IsPlaced, placed, prev_row, next_row, not_prev, not_next, not_both, IsChain-appended, IsChain-appended_other, AreChains-appended, IsChain-detached, IsChain-detached_other, AreChains-detached}

unequal : (a b : ℕ) → a ≢ b → (a == b) ≡ false
unequal a b d = grind (arith, common_steps)

-- a table after a change at one key

pub get_same : {R : Type 0} (m : Rows R) (k : ℕ) (v : Option R) → rows.get (put m k v) k ≡ v
get_same m k v = get-put_same nat_order m k v

pub get_other : {R : Type 0} (m : Rows R) (k : ℕ) (v : Option R) (q : ℕ) → q ≢ k → rows.get (put m k v) q ≡ rows.get m q
get_other m k v q d = get-put_other nat_order m k v q (unsigned_tied q k ∙ unequal q k d)

-- keys that stand apart and have rows are no more than the table has rows

apart_from : (k : ℕ) (ks : List ℕ) → (Has k ks → ⊥) → AllByRecursion (λ y. eq_by_cmp nat_cmp k y ≡ false) ks
apart_from k [] h = tt
apart_from k (y ∷ ks) h = (unsigned_tied k y ∙ unequal k y (λ e. h (inl (sym e))), apart_from k ks (λ t. h (inr t)))

IsDistinct-apart : (ks : List ℕ) → AreApart ks → IsDistinct (eq_by_cmp nat_cmp) ks
unfolding IsDistinct
IsDistinct-apart [] d = tt
IsDistinct-apart (k ∷ ks) d = (apart_from k ks d.0, IsDistinct-apart ks d.1)

Has-member : (ks : List ℕ) (q : ℕ) → is_member (eq_by_cmp nat_cmp) ks q ≡ true → Has q ks
Has-member [] q e = absurd (never e)
  where
    never : false ≡ true → ⊥
    never e = cc
Has-member (k ∷ ks) q e = elim (cases_eq k q) [
  | inl same ↦ inl same
  | inr apart ↦ inr (Has-member ks q (later (eq_by_cmp nat_cmp q k) _ (unsigned_tied q k ∙ unequal q k (λ s. apart (sym s))) e))
]
  where
    later : (a b : Bool) → a ≡ false → (a || b) ≡ true → b ≡ true
    later true b n h = absurd (never n)
      where
        never : true ≡ false → ⊥
        never e = cc
    later false b n h = h

length-le-rows : {R : Type 0} (m : Rows R) (ks : List ℕ) → AreApart ks → ((k : ℕ) → Has k ks → is_some (rows.get m k) ≡ true) → length ks ≤ rows.len m
length-le-rows m ks d live =
    let few = length-le_from_is_member (eq_by_cmp_equiv nat_cmp_total) ks (rows.keys m) (IsDistinct-apart ks d)
    (λ q h. sym (contains_key-keys m q) ∙ live q (Has-member ks q h)) in
    subst (λ n. length ks ≤ n) (length-map (rows.entries m) (λ e. e.0) ∙ sym (len-entries m)) few

-- what is shown at these keys

module _ {X : Type 0} (f f' : ℕ → Option X) where
  pub shown-same : (ks : List ℕ) → ((k : ℕ) → Has k ks → f' k ≡ f k) → filter_map f' ks ≡ filter_map f ks
  shown-same [] same = refl
  shown-same (k ∷ ks) same = λ i. cons_option (same k (inl refl) i) (shown-same ks (λ q h. same q (inr h)) i)

  pub shown-with : (ks : List ℕ) (key : ℕ) (x : X) → ((k : ℕ) → Has k ks → f' k ≡ f k) → f' key ≡ Some x → filter_map f' (ks ++ key ∷ []) ≡ filter_map f ks ++ x ∷ []
  shown-with ks key x same at =
      filter_map-append f' ks (key ∷ [])
      ∙ (λ i. shown-same ks same i ++ cons_option (at i) [])

  pub shown-mapped : (change : X → X) (ks : List ℕ) → ((k : ℕ) → Has k ks → f' k ≡ option_map change (f k)) → filter_map f' ks ≡ map change (filter_map f ks)
  shown-mapped change [] same = refl
  shown-mapped change (k ∷ ks) same =
      (λ i. cons_option (same k (inl refl) i) (shown-mapped change ks (λ q h. same q (inr h)) i)) ∙ one (f k) (filter_map f ks)
    where
      one : (o : Option X) (xs : List X) → cons_option (option_map change o) (map change xs) ≡ map change (cons_option o xs)
      one None xs = refl
      one (Some x) xs = refl

  pub shown-kept : (keep : X → Bool) (ks : List ℕ) → ((k : ℕ) (x : X) → Has k ks → f k ≡ Some x → keep x ≡ true) → ((k : ℕ) → Has k ks → f' k ≡ f k) → filter_map f' ks ≡ filter keep (filter_map f ks)
  shown-kept keep [] all same = refl
  shown-kept keep (k ∷ ks) all same =
      (λ i. cons_option (same k (inl refl) i) (shown-kept keep ks (λ q x h. all q x (inr h)) (λ q h. same q (inr h)) i))
      ∙ one (f k) (filter_map f ks) (λ x e. all k x (inl refl) e)
    where
      one : (o : Option X) (xs : List X) → ((x : X) → o ≡ Some x → keep x ≡ true) → cons_option o (filter keep xs) ≡ filter keep (cons_option o xs)
      one None xs kept = refl
      one (Some x) xs kept = sym (ap (λ b. cond b (x ∷ filter keep xs) (filter keep xs)) (kept x refl))

  pub shown-without : (keep : X → Bool) (front back : List ℕ) (key : ℕ) (x : X) → f key ≡ Some x → keep x ≡ false
      → ((k : ℕ) (y : X) → Has k (front ++ back) → f k ≡ Some y → keep y ≡ true) → ((k : ℕ) → Has k (front ++ back) → f' k ≡ f k)
      → filter_map f' (front ++ back) ≡ filter keep (filter_map f (front ++ key ∷ back))
  shown-without keep [] back key x at out all same =
      shown-kept keep back all same
      ∙ sym (ap (λ o. filter keep (cons_option o (filter_map f back))) at ∙ ap (λ b. cond b (x ∷ filter keep (filter_map f back)) (filter keep (filter_map f back))) out)
  shown-without keep (k ∷ front) back key x at out all same =
      (λ i. cons_option (same k (inl refl) i) (shown-without keep front back key x at out (λ q y h. all q y (inr h)) (λ q h. same q (inr h)) i))
      ∙ one (f k) (filter_map f (front ++ key ∷ back)) (λ y e. all k y (inl refl) e)
    where
      one : (o : Option X) (xs : List X) → ((x : X) → o ≡ Some x → keep x ≡ true) → cons_option o (filter keep xs) ≡ filter keep (cons_option o xs)
      one None xs kept = refl
      one (Some x) xs kept = sym (ap (λ b. cond b (x ∷ filter keep xs) (filter keep xs)) (kept x refl))

module _ {R : Type 0} (C : ChainRows R) where
  pub linked_row : (o : Option R) (link : Link) → option_and_then C.link_of o ≡ Some link → (row : R) × ((o ≡ Some row) × (C.link_of row ≡ Some link))
  linked_row None link e = absurd (none_some link e)
  linked_row (Some row) link e = (row, (refl, e))

  -- a chain's keys are those that a walk comes to
  pub keys-chain : (m : Rows R) (owner : ℕ) (ends : Ends) (ks : List ℕ) → IsChain (links C m) owner ends ks → keys C m ends.first ≡ ks
  keys-chain m owner ends ks c =
      ap (walk (links C m) (rows.len m)) c.begins
      ∙ walk-linked owner (links C m) None ks (rows.len m) c.linked
      (length-le-rows m ks c.apart (λ k h. let l = AreLinked-row owner (links C m) None ks None k c.linked h in ap is_some (linked_row (rows.get m k) l.0 l.1.0).1.0))

  -- a key of a chain has a row of it
  pub keys-row : (m : Rows R) (ends_of : ℕ → Option Ends) → AreChains (links C m) ends_of → (owner : ℕ) (ends : Ends) → ends_of owner ≡ Some ends → (k : ℕ) → Has k (keys C m ends.first) → (link : Link) × ((links C m k ≡ Some link) × (link.owner ≡ owner))
  keys-row m ends_of chains owner ends at k h =
      let c = chains.chain owner ends at in
      AreLinked-row owner (links C m) None c.0 None k c.1.linked (subst (λ ks. Has k ks) (keys-chain m owner ends c.0 c.1) h)

  -- a row with another neighbour

  lead_links : (to : Option ℕ) (o : Option R) → option_and_then C.link_of (option_map (λ row. C.lead row to) o) ≡ with_next to (option_and_then C.link_of o)
  lead_links to None = refl
  lead_links to (Some row) = C.leads row to

  follow_links : (from : Option ℕ) (o : Option R) → option_and_then C.link_of (option_map (λ row. C.follow row from) o) ≡ with_prev from (option_and_then C.link_of o)
  follow_links from None = refl
  follow_links from (Some row) = C.follows row from

  lead_at-there : (m : Rows R) (at to : Option ℕ) (k : ℕ) → at ≡ Some k → links C (lead_at C m at to) k ≡ with_next to (links C m k)
  lead_at-there m at to k e =
      ap (λ o. links C (lead_at C m o to) k) e
      ∙ ap (option_and_then C.link_of) (get_same m k (option_map (λ row. C.lead row to) (rows.get m k)))
      ∙ lead_links to (rows.get m k)

  pub get-lead_at_other : (m : Rows R) (at to : Option ℕ) (q : ℕ) → (at ≡ Some q → ⊥) → rows.get (lead_at C m at to) q ≡ rows.get m q
  get-lead_at_other m None to q d = refl
  get-lead_at_other m (Some k) to q d = get_other m k (option_map (λ row. C.lead row to) (rows.get m k)) q (λ e. d (ap (λ z. Some z) (sym e)))

  follow_at-there : (m : Rows R) (at from : Option ℕ) (k : ℕ) → at ≡ Some k → links C (follow_at C m at from) k ≡ with_prev from (links C m k)
  follow_at-there m at from k e =
      ap (λ o. links C (follow_at C m o from) k) e
      ∙ ap (option_and_then C.link_of) (get_same m k (option_map (λ row. C.follow row from) (rows.get m k)))
      ∙ follow_links from (rows.get m k)

  pub get-follow_at_other : (m : Rows R) (at from : Option ℕ) (q : ℕ) → (at ≡ Some q → ⊥) → rows.get (follow_at C m at from) q ≡ rows.get m q
  get-follow_at_other m None from q d = refl
  get-follow_at_other m (Some k) from q d = get_other m k (option_map (λ row. C.follow row from) (rows.get m k)) q (λ e. d (ap (λ z. Some z) (sym e)))

  -- what has nothing to do with a row's neighbours stays

  module _ {X : Type 0} (F : Option R → X) where
    pub seen-lead_at : ((row : R) (to : Option ℕ) → F (Some (C.lead row to)) ≡ F (Some row)) → (m : Rows R) (at to : Option ℕ) (q : ℕ) → F (rows.get (lead_at C m at to) q) ≡ F (rows.get m q)
    seen-lead_at blind m at to q = elim (is_key at q) [
      | inl e ↦ ap (λ o. F (rows.get (lead_at C m o to) q)) e ∙ ap F (get_same m q (option_map (λ row. C.lead row to) (rows.get m q))) ∙ one (rows.get m q)
      | inr d ↦ ap F (get-lead_at_other m at to q d)
    ]
      where
        one : (o : Option R) → F (option_map (λ row. C.lead row to) o) ≡ F o
        one None = refl
        one (Some row) = blind row to

    pub seen-follow_at : ((row : R) (from : Option ℕ) → F (Some (C.follow row from)) ≡ F (Some row)) → (m : Rows R) (at from : Option ℕ) (q : ℕ) → F (rows.get (follow_at C m at from) q) ≡ F (rows.get m q)
    seen-follow_at blind m at from q = elim (is_key at q) [
      | inl e ↦ ap (λ o. F (rows.get (follow_at C m o from) q)) e ∙ ap F (get_same m q (option_map (λ row. C.follow row from) (rows.get m q))) ∙ one (rows.get m q)
      | inr d ↦ ap F (get-follow_at_other m at from q d)
    ]
      where
        one : (o : Option R) → F (option_map (λ row. C.follow row from) o) ≡ F o
        one None = refl
        one (Some row) = blind row from

  -- rows that are linked alike

  pub AreChains-same : (row row' : ℕ → Option Link) (ends_of ends_of' : ℕ → Option Ends) → ((k : ℕ) → row' k ≡ row k) → ((o : ℕ) → ends_of' o ≡ ends_of o) → AreChains row ends_of → AreChains row' ends_of'
  AreChains-same row row' ends_of ends_of' same held chains =
      let F : (ℕ → Option Link) → Type 0 = λ r. AreChains r ends_of in
      let G : (ℕ → Option Ends) → Type 0 = λ e. AreChains row' e in
      subst G (λ i o. sym (held o) i) (subst F (λ i k. sym (same k) i) chains)

  module _ (m m' : Rows R) (ends_of : ℕ → Option Ends) (chains : AreChains (links C m) ends_of) (same : (k : ℕ) → links C m' k ≡ links C m k) where
    pub keys-same : (owner : ℕ) (ends : Ends) → ends_of owner ≡ Some ends → keys C m' ends.first ≡ keys C m ends.first
    keys-same owner ends at =
        let c = chains.chain owner ends at in
        let F : (ℕ → Option Link) → Type 0 = λ r. IsChain r owner ends c.0 in
        keys-chain m' owner ends c.0 (subst F (λ i k. sym (same k) i) c.1) ∙ sym (keys-chain m owner ends c.0 c.1)

    pub listed-same : {X : Type 0} (f f' : ℕ → Option X) (owner : ℕ) (ends : Ends) → ends_of owner ≡ Some ends → ((k : ℕ) (link : Link) → links C m k ≡ Some link → link.owner ≡ owner → f' k ≡ f k) → listed C f' m' ends.first ≡ listed C f m ends.first
    listed-same f f' owner ends at alike =
        ap (filter_map f') (keys-same owner ends at)
        ∙ shown-same f f' (keys C m ends.first) (λ k h. let l = keys-row m ends_of chains owner ends at k h in alike k l.0 l.1.0 l.1.1)

    pub listed-mapped : {X : Type 0} (f f' : ℕ → Option X) (change : X → X) (owner : ℕ) (ends : Ends) → ends_of owner ≡ Some ends → ((k : ℕ) (link : Link) → links C m k ≡ Some link → link.owner ≡ owner → f' k ≡ option_map change (f k)) → listed C f' m' ends.first ≡ map change (listed C f m ends.first)
    listed-mapped f f' change owner ends at alike =
        ap (filter_map f') (keys-same owner ends at)
        ∙ shown-mapped f f' change (keys C m ends.first) (λ k h. let l = keys-row m ends_of chains owner ends at k h in alike k l.0 l.1.0 l.1.1)

  -- a row has gone last in a chain
  module _ (m m1 : Rows R) (ends_of ends_of' : ℕ → Option Ends) (owner key : ℕ) (ends : Ends) (chains : AreChains (links C m) ends_of) (w : EndsChange ends_of ends_of' owner ends (ends_with ends key)) (absent : links C m key ≡ None) (new : links C m1 key ≡ Some (record { owner = owner; prev = ends.last; next = None })) (same : (q : ℕ) → q ≢ key → links C m1 q ≡ links C m q) where
    abbrev pub appended : Rows R
    appended = lead_at C m1 ends.last (Some key)

    last_apart : (p : ℕ) → ends.last ≡ Some p → p ≢ key
    last_apart p e same_key =
        let c = chains.chain owner ends w.was in
        absent_in (links C m) owner None c.0 None key c.1.linked absent (subst (λ z. Has z c.0) same_key (last_Has c.0 p (sym c.1.stops ∙ e)))

    appends : Appends (links C m) (links C appended) owner key ends.last
    appends = record {
      absent = absent;
      new = ap (option_and_then C.link_of) (get-lead_at_other m1 ends.last (Some key) key (λ e. last_apart key e refl)) ∙ new;
      left = λ p e. lead_at-there m1 ends.last (Some key) p e ∙ ap (with_next (Some key)) (same p (last_apart p e));
      rest = λ q d not_last. ap (option_and_then C.link_of) (get-lead_at_other m1 ends.last (Some key) q not_last) ∙ same q d;
    }

    pub appended_chains : AreChains (links C appended) ends_of'
    appended_chains = AreChains-appended (links C m) (links C appended) ends_of ends_of' owner key ends chains w appends

    new_key : (o : ℕ) (other : Ends) → ends_of o ≡ Some other → (k : ℕ) → Has k (keys C m other.first) → k ≢ key
    new_key o other at k h e =
        let l = keys-row m ends_of chains o other at k h in
        none_some l.0 (sym absent ∙ ap (links C m) (sym e) ∙ l.1.0)

    pub appended_listed : {X : Type 0} (f f' : ℕ → Option X) (x : X) → ((k : ℕ) → k ≢ key → f' k ≡ f k) → f' key ≡ Some x → listed C f' appended (ends_with ends key).first ≡ listed C f m ends.first ++ x ∷ []
    appended_listed f f' x alike at =
        let c = chains.chain owner ends w.was in
        ap (filter_map f') (keys-chain appended owner (ends_with ends key) (c.0 ++ key ∷ []) (IsChain-appended (links C m) (links C appended) owner key ends appends c.0 c.1) ∙ sym (ap (λ ks. ks ++ key ∷ []) (keys-chain m owner ends c.0 c.1)))
        ∙ shown-with f f' (keys C m ends.first) key x (λ k h. alike k (new_key owner ends w.was k h)) at

    pub appended_other : {X : Type 0} (f f' : ℕ → Option X) → ((k : ℕ) → k ≢ key → f' k ≡ f k) → (o : ℕ) (other : Ends) → o ≢ owner → ends_of o ≡ Some other → listed C f' appended other.first ≡ listed C f m other.first
    appended_other f f' alike o other differs at =
        let mine = chains.chain owner ends w.was in
        let c = chains.chain o other at in
        ap (filter_map f') (keys-chain appended o other c.0 (IsChain-appended_other (links C m) (links C appended) owner key ends appends mine.0 mine.1 o other c.0 differs c.1) ∙ sym (keys-chain m o other c.0 c.1))
        ∙ shown-same f f' (keys C m other.first) (λ k h. alike k (new_key o other at k h))

  -- a row has left its chain
  module _ (m m' : Rows R) (ends_of ends_of' : ℕ → Option Ends) (key : ℕ) (link : Link) (chains : AreChains (links C m) ends_of) (was : links C m key ≡ Some link) (gone : links C m' key ≡ None) (same : (q : ℕ) → q ≢ key → links C m' q ≡ links C (follow_at C (lead_at C m link.prev link.next) link.next link.prev) q) where
    abbrev pub place : IsPlaced (links C m) ends_of key link
    place = placed (links C m) ends_of key link chains was

    detaches : Detaches (links C m) (links C m') key link
    detaches =
        let led = lead_at C m link.prev link.next in
        record {
          was = was;
          gone = gone;
          left = λ p e. same p (not_prev (links C m) ends_of key link place p e) ∙ ap (option_and_then C.link_of) (get-follow_at_other led link.next link.prev p (λ f. not_both (links C m) ends_of key link place p e f)) ∙ lead_at-there m link.prev link.next p e;
          right = λ n e. same n (not_next (links C m) ends_of key link place n e) ∙ follow_at-there led link.next link.prev n e ∙ ap (with_prev link.prev) (ap (option_and_then C.link_of) (get-lead_at_other m link.prev link.next n (λ f. not_both (links C m) ends_of key link place n f e)));
          rest = λ q d p n. same q d ∙ ap (option_and_then C.link_of) (get-follow_at_other led link.next link.prev q n ∙ get-lead_at_other m link.prev link.next q p);
        }

    pub detached_chains : EndsChange ends_of ends_of' link.owner place.ends (ends_without place.ends link) → AreChains (links C m') ends_of'
    detached_chains w = AreChains-detached (links C m) (links C m') ends_of key link place detaches ends_of' chains w

    inside : (k : ℕ) → Has k (place.front ++ place.back) → Has k (place.front ++ key ∷ place.back)
    inside k h = elim (Has-append_cases k place.front place.back h) [
      | inl a ↦ Has-append_left k place.front (key ∷ place.back) a
      | inr b ↦ Has-append_right k place.front (key ∷ place.back) (inr b)
    ]

    not_key : (k : ℕ) → Has k (place.front ++ place.back) → k ≢ key
    not_key k h e =
        let d = AreApart-middle place.front place.back key place.chain.apart in
        elim (Has-append_cases k place.front place.back h) [
          | inl a ↦ d.0 (subst (λ z. Has z place.front) e a)
          | inr b ↦ d.1.0 (subst (λ z. Has z place.back) e b)
        ]

    pub detached_listed : {X : Type 0} (f f' : ℕ → Option X) (keep : X → Bool) (x : X) → f key ≡ Some x → keep x ≡ false
        → ((k : ℕ) (l : Link) (y : X) → k ≢ key → links C m k ≡ Some l → l.owner ≡ link.owner → f k ≡ Some y → keep y ≡ true)
        → ((k : ℕ) → k ≢ key → f' k ≡ f k) → listed C f' m' (ends_without place.ends link).first ≡ filter keep (listed C f m place.ends.first)
    detached_listed f f' keep x at out all alike =
        ap (filter_map f') (keys-chain m' link.owner (ends_without place.ends link) (place.front ++ place.back) (IsChain-detached (links C m) (links C m') ends_of key link place detaches))
        ∙ shown-without f f' keep place.front place.back key x at out
        (λ k y h e. let l = AreLinked-row link.owner (links C m) None (place.front ++ key ∷ place.back) None k place.chain.linked (inside k h) in all k l.0 y (not_key k h) l.1.0 l.1.1 e)
        (λ k h. alike k (not_key k h))
        ∙ sym (ap (λ ks. filter keep (filter_map f ks)) (keys-chain m link.owner place.ends (place.front ++ key ∷ place.back) place.chain))

    pub detached_other : {X : Type 0} (f f' : ℕ → Option X) → ((k : ℕ) → k ≢ key → f' k ≡ f k) → (o : ℕ) (other : Ends) → o ≢ link.owner → ends_of o ≡ Some other → listed C f' m' other.first ≡ listed C f m other.first
    detached_other f f' alike o other differs at =
        let c = chains.chain o other at in
        ap (filter_map f') (keys-chain m' o other c.0 (IsChain-detached_other (links C m) (links C m') ends_of key link place detaches o other c.0 differs c.1) ∙ sym (keys-chain m o other c.0 c.1))
        ∙ shown-same f f' (keys C m other.first) (λ k h.
        let l = keys-row m ends_of chains o other at k h in
        alike k (λ e. differs (sym l.1.1 ∙ ap (λ (z : Link). z.owner) (same_some l.0 link (sym l.1.0 ∙ ap (links C m) e ∙ was)))))

-- from a row of a chain on
module _ {R : Type 0} (C : ChainRows R) (m : Rows R) where
  pub keys-way : (start : Option ℕ) (ks : List ℕ) → IsWay C m start ks → keys C m start ≡ ks
  keys-way start ks w = ap (walk (links C m) (rows.len m)) w.begins ∙ walk-linked w.owner (links C m) w.before ks (rows.len m) w.linked w.few

  pub IsWay-chain : (owner : ℕ) (ends : Ends) (ks : List ℕ) → IsChain (links C m) owner ends ks → IsWay C m ends.first ks
  IsWay-chain owner ends ks c = record { owner = owner; before = None; begins = c.begins; linked = c.linked; few = length-le-rows m ks c.apart (λ k h. let l = AreLinked-row owner (links C m) None ks None k c.linked h in ap is_some (linked_row C (rows.get m k) l.0 l.1.0).1.0) }

  -- one row on
  pub record IsStep (key : ℕ) (ks : List ℕ) : Type 0 where
    pub row : R
    pub rest : List ℕ
    pub at : rows.get m key ≡ Some row
    pub parts : ks ≡ key ∷ rest
    pub way : IsWay C m (next_of (C.link_of row)) rest

  pub way-step : (start : Option ℕ) (key : ℕ) (ks : List ℕ) → start ≡ Some key → IsWay C m start ks → IsStep key ks
  way-step start key [] e w = absurd (none_some key (sym w.begins ∙ e))
  way-step start key (k ∷ ks) e w =
      let same : k ≡ key = same_some k key (sym w.begins ∙ e) in
      let there = linked_row C (rows.get m k) (record { owner = w.owner; prev = w.before; next = first_or ks None }) w.linked.0 in
      record {
        row = there.0;
        rest = ks;
        at = ap (rows.get m) (sym same) ∙ there.1.0;
        parts = ap (λ z. z ∷ ks) same;
        way = record {
          owner = w.owner;
          before = Some k;
          begins = ap next_of there.1.1;
          linked = w.linked.1;
          few = omega (arith, w.few);
        };
      }

  pub way-end : (start : Option ℕ) (ks : List ℕ) → ((k : ℕ) → start ≡ Some k → ⊥) → IsWay C m start ks → ks ≡ []
  way-end start [] never w = refl
  way-end start (k ∷ ks) never w = absurd (never k w.begins)

-- a search along a chain
module _ {R : Type 0} (C : ChainRows R) (m : Rows R) where
  pub record IsNext (start : Option ℕ) (key : ℕ) (row : R) (ks : List ℕ) : Type 0 where
    pub rest : List ℕ
    pub parts : ks ≡ key ∷ rest
    pub way : IsWay C m (next_of (C.link_of row)) rest
    pub shorter : length (keys C m (next_of (C.link_of row))) < length (keys C m start)

  pub search-next : (start : Option ℕ) (key : ℕ) (row : R) (ks : List ℕ) → start ≡ Some key → rows.get m key ≡ Some row → IsWay C m start ks → IsNext start key row ks
  search-next start key row ks e at w =
      let s = way-step C m start key ks e w in
      let same : s.row ≡ row = same_some s.row row (sym s.at ∙ at) in
      let way : IsWay C m (next_of (C.link_of row)) s.rest = subst (λ r. IsWay C m (next_of (C.link_of r)) s.rest) same s.way in
      record {
        rest = s.rest;
        parts = s.parts;
        way = way;
        shorter = less (length s.rest) (length (keys C m (next_of (C.link_of row)))) (length (keys C m start)) (ap length (keys-way C m (next_of (C.link_of row)) s.rest way)) (ap length (keys-way C m start ks w ∙ s.parts));
      }
    where
      less : (n a b : ℕ) → a ≡ n → b ≡ suc n → a < b
      less n a b e f = omega arith

module _ {R : Type 0} (number_of : R → ℕ) (m : Rows R) (number : ℕ) where
  pub numbered-yes : (key : ℕ) (row : R) → rows.get m key ≡ Some row → number_of row ≡ number → is_numbered number_of m number key ≡ true
  numbered-yes key row at e = ap (row_is_numbered number_of number) at ∙ equal (number_of row) number e
    where
      equal : (a b : ℕ) → a ≡ b → (a == b) ≡ true
      equal a b e = grind (arith, common_steps)

  pub numbered-no : (key : ℕ) (row : R) → rows.get m key ≡ Some row → (number_of row ≡ number → ⊥) → is_numbered number_of m number key ≡ false
  numbered-no key row at d = ap (row_is_numbered number_of number) at ∙ unequal (number_of row) number d

-- what the first key shows that passes a test
pub find-shown : {X : Type 0} (f : ℕ → Option X) (p : ℕ → Bool) (test : X → Bool) (ks : List ℕ) → ((k : ℕ) → Has k ks → (x : X) × ((f k ≡ Some x) × (test x ≡ p k))) → find test (filter_map f ks) ≡ option_and_then f (find p ks)
find-shown f p test [] shows = refl
find-shown f p test (k ∷ ks) shows =
    let s = shows k (inl refl) in
    ap (λ o. find test (cons_option o (filter_map f ks))) s.1.0
    ∙ ap (λ b. cond b (Some s.0) (find test (filter_map f ks))) s.1.1
    ∙ one (p k) (find-shown f p test ks (λ q h. shows q (inr h)))
  where
    one : (b : Bool) → find test (filter_map f ks) ≡ option_and_then f (find p ks) → cond b (Some (shows k (inl refl)).0) (find test (filter_map f ks)) ≡ option_and_then f (cond b (Some k) (find p ks))
    one true e = sym (shows k (inl refl)).1.0
    one false e = e

-- the key that was found is one of these, and passes
pub find-key : (p : ℕ → Bool) (ks : List ℕ) (key : ℕ) → find p ks ≡ Some key → Has key ks × (p key ≡ true)
find-key p [] key e = absurd (none_some key e)
find-key p (k ∷ ks) key e = one (p k) refl (λ rest. find-key p ks key rest) e
  where
    one : (b : Bool) → p k ≡ b → (find p ks ≡ Some key → Has key ks × (p key ≡ true)) → cond b (Some k) (find p ks) ≡ Some key → Has key (k ∷ ks) × (p key ≡ true)
    one true is later e = (inl (same_some k key e), ap p (sym (same_some k key e)) ∙ is)
    one false is later e = let r = later e in (inr r.0, r.1)

-- a row that owns a chain, with the ends that it had
pub holders_kept : {O : Type 0} (H : ChainHolders O) (m : Rows O) (owner : ℕ) (link : Link) → is_some link.prev ≡ true → is_some link.next ≡ true → m ≡ put m owner (option_map (λ holder. H.with_ends holder (ends_without (H.ends_of holder) link)) (rows.get m owner))
holders_kept {O} H m owner link prev next = sym (put_same nat_order m owner (option_map (λ holder. H.with_ends holder (ends_without (H.ends_of holder) link)) (rows.get m owner)) (sym (one (rows.get m owner))))
  where
    kept : (o p q : Option ℕ) → is_some o ≡ true → unless_there o p q ≡ q
    kept None p q there = absurd (cc)
    kept (Some x) p q there = refl

    one : (o : Option O) → option_map (λ holder. H.with_ends holder (ends_without (H.ends_of holder) link)) o ≡ o
    one None = refl
    one (Some holder) =
        ap (λ z. Some z)
        ((λ i. H.with_ends holder (record { first = kept link.prev link.next (H.ends_of holder).first prev i; last = kept link.next link.prev (H.ends_of holder).last next i }))
        ∙ H.as_it_was holder)
