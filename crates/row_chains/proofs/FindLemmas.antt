-- What a search in a chain has found.
use Rattle.std.proofs.Common.{◌≡◌, ℕ, ◌==◌, Bool, true, false, cond, List, [], ◌∷◌, map, find, Option, Some, None, option_map, option_and_then, is_some, refl, sym, ap, subst, ◌∙◌, inl, inr, arith}
use Rattle.std.proofs.lemmas.Grind.{common_steps}
use Rattle.std.specs.List.{filter_map}
use Rattle.std.specs.FinMap as rows
use Rattle.undo_slots.specs.Slots.{Rows}
use Rattle.row_chains.specs.declared.link.Link.{Link}
use Rattle.row_chains.specs.declared.link.Ends.{Ends}
use Rattle.row_chains.specs.Chains.{Has, AreChains}
use Rattle.row_chains.specs.Rows.{ChainRows, ChainHolders, links, keys, listed, row_is_numbered, is_numbered, key_under, key_in, ends_in}
use Rattle.row_chains.proofs.KeyLemmas.{same_some, none_some}
use Rattle.row_chains.proofs.TableLemmas.{linked_row, keys-row, keys-chain, find-shown, find-key}

some_find : (p : ℕ → Bool) (ks : List ℕ) (key : ℕ) → Has key ks → p key ≡ true → is_some (find p ks) ≡ true
some_find p [] key h e = absurd h
some_find p (k ∷ ks) key h e = one (p k) refl (λ t. some_find p ks key t e)
  where
    first : (b : Bool) → p k ≡ b → b ≡ false → k ≡ key → ⊥
    first b is f same = never (sym e ∙ ap p (sym same) ∙ is ∙ f)
      where
        never : true ≡ false → ⊥
        never e = cc

    one : (b : Bool) → p k ≡ b → (Has key ks → is_some (find p ks) ≡ true) → is_some (cond b (Some k) (find p ks)) ≡ true
    one true is later = refl
    one false is later = elim h [ inl same ↦ absurd (first false is refl same) | inr t ↦ later t ]

equal_true : (a b : ℕ) → (a == b) ≡ true → a ≡ b
equal_true a b e = grind (arith, common_steps)

module _ {R O : Type 0} (C : ChainRows R) (H : ChainHolders O) (number_of : R → ℕ) (m : Rows R) (holders : Rows O) (chains : AreChains (links C m) (ends_in H holders)) (owner : ℕ) (holder : O) (held : rows.get holders owner ≡ Some holder) where
  held_ends : ends_in H holders owner ≡ Some (H.ends_of holder)
  held_ends = ap (option_map H.ends_of) held

  -- the row that was found
  pub record IsFound (number key : ℕ) : Type 0 where
    pub row : R
    pub link : Link
    pub at : rows.get m key ≡ Some row
    pub linked : C.link_of row ≡ Some link
    pub mine : link.owner ≡ owner
    pub numbered : number_of row ≡ number

  pub found : (number key : ℕ) → key_in C H number_of m holders owner number ≡ Some key → IsFound number key
  found number key e =
      let f = find-key (is_numbered number_of m number) (keys C m (H.ends_of holder).first) key (sym (ap (key_under C H number_of m number) held) ∙ e) in
      let l = keys-row C m (ends_in H holders) chains owner (H.ends_of holder) held_ends key f.0 in
      let r = linked_row C (rows.get m key) l.0 l.1.0 in
      record {
        row = r.0;
        link = l.0;
        at = r.1.0;
        linked = r.1.1;
        mine = l.1.1;
        numbered = equal_true (number_of r.0) number (sym (ap (row_is_numbered number_of number) r.1.0) ∙ f.1);
      }

  -- what is shown by the first item with a number
  pub find-listed : {X : Type 0} (f : ℕ → Option X) (number_in : X → ℕ) → ((k : ℕ) (row : R) (link : Link) → rows.get m k ≡ Some row → C.link_of row ≡ Some link → link.owner ≡ owner → (x : X) × ((f k ≡ Some x) × (number_in x ≡ number_of row)))
      → (number : ℕ) → find (λ x. number_in x == number) (listed C f m (H.ends_of holder).first) ≡ option_and_then f (key_in C H number_of m holders owner number)
  find-listed f number_in shows number =
      find-shown f (is_numbered number_of m number) (λ x. number_in x == number) (keys C m (H.ends_of holder).first)
      (λ k h.
      let l = keys-row C m (ends_in H holders) chains owner (H.ends_of holder) held_ends k h in
      let r = linked_row C (rows.get m k) l.0 l.1.0 in
      let s = shows k r.0 l.0 r.1.0 r.1.1 l.1.1 in
      (s.0, (s.1.0, ap (λ n. n == number) s.1.1 ∙ sym (ap (row_is_numbered number_of number) r.1.0))))
      ∙ sym (ap (λ o. option_and_then f (key_under C H number_of m number o)) held)

  -- a row of the chain with a number is found, unless an earlier one is
  pub some_found : (key : ℕ) (row : R) (link : Link) → rows.get m key ≡ Some row → C.link_of row ≡ Some link → link.owner ≡ owner → is_some (key_in C H number_of m holders owner (number_of row)) ≡ true
  some_found key row link at linked mine =
      let c = chains.chain owner (H.ends_of holder) held_ends in
      let inside : Has key (keys C m (H.ends_of holder).first) = subst (λ ks. Has key ks) (sym (keys-chain C m owner (H.ends_of holder) c.0 c.1)) (c.1.whole key link (ap (option_and_then C.link_of) at ∙ linked) mine) in
      ap (λ o. is_some (key_under C H number_of m (number_of row) o)) held
      ∙ some_find (is_numbered number_of m (number_of row)) (keys C m (H.ends_of holder).first) key inside (ap (row_is_numbered number_of (number_of row)) at ∙ itself (number_of row))
    where
      itself : (a : ℕ) → (a == a) ≡ true
      itself a = grind (arith, common_steps)
