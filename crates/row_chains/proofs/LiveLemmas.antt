-- Rows that a chain leads to are there.
use Rattle.std.proofs.Common.{◌≡◌, ℕ, true, Option, Some, None, option_map, is_some, refl, sym, ap, ◌∙◌, inl, inr}
use Rattle.std.proofs.lemmas.Bool.{cases_eq}
use Rattle.std.specs.FinMap as rows
use Rattle.undo_slots.specs.Slots.{Rows}
use Rattle.row_chains.specs.declared.link.Link.{Link}
use Rattle.row_chains.specs.declared.link.Ends.{Ends}
use Rattle.row_chains.specs.Chains.{AreChains}
use Rattle.row_chains.specs.Rows.{ChainRows, ChainHolders, links, lead_at, follow_at, ends_in}
use Rattle.row_chains.proofs.KeyLemmas.{last_Has, AreLinked-row}
use Rattle.row_chains.proofs.ChainLemmas.{placed, prev_row, next_row}
use Rattle.row_chains.proofs.TableLemmas.{get_same, get_other, linked_row, seen-lead_at, seen-follow_at}

module _ {R : Type 0} (C : ChainRows R) (m : Rows R) (ends_of : ℕ → Option Ends) (chains : AreChains (links C m) ends_of) where
  pub last_live : (owner : ℕ) (ends : Ends) → ends_of owner ≡ Some ends → (k : ℕ) → ends.last ≡ Some k → is_some (rows.get m k) ≡ true
  last_live owner ends at k e =
      let c = chains.chain owner ends at in
      let l = AreLinked-row owner (links C m) None c.0 None k c.1.linked (last_Has c.0 k (sym c.1.stops ∙ e)) in
      ap is_some (linked_row C (rows.get m k) l.0 l.1.0).1.0

  pub prev_live : (key : ℕ) (link : Link) → links C m key ≡ Some link → (k : ℕ) → link.prev ≡ Some k → is_some (rows.get m k) ≡ true
  prev_live key link at k e =
      let l = prev_row (links C m) ends_of key link (placed (links C m) ends_of key link chains at) k e in
      ap is_some (linked_row C (rows.get m k) l.0 l.1.0).1.0

  pub next_live : (key : ℕ) (link : Link) → links C m key ≡ Some link → (k : ℕ) → link.next ≡ Some k → is_some (rows.get m k) ≡ true
  next_live key link at k e =
      let l = next_row (links C m) ends_of key link (placed (links C m) ends_of key link chains at) k e in
      ap is_some (linked_row C (rows.get m k) l.0 l.1.0).1.0

-- the owner of a row is there
pub owner_live : {O : Type 0} (H : ChainHolders O) (row : ℕ → Option Link) (holders : Rows O) → AreChains row (ends_in H holders) → (key : ℕ) (link : Link) → row key ≡ Some link → is_some (rows.get holders link.owner) ≡ true
owner_live {O} H row holders chains key link at = one (rows.get holders link.owner) (chains.owned key link at)
  where
    one : (o : Option O) → is_some (option_map H.ends_of o) ≡ true → is_some o ≡ true
    one None e = e
    one (Some holder) e = refl

-- what is there stays

pub live_insert : {R : Type 0} (m : Rows R) (q : ℕ) (v : R) (k : ℕ) → is_some (rows.get m k) ≡ true → is_some (rows.get (rows.insert m q v) k) ≡ true
live_insert m q v k there = elim (cases_eq k q) [
  | inl e ↦ ap (λ z. is_some (rows.get (rows.insert m q v) z)) e ∙ ap is_some (get_same m q (Some v))
  | inr d ↦ ap is_some (get_other m q (Some v) k d) ∙ there
]

pub live_joined : {R : Type 0} (C : ChainRows R) (m : Rows R) (prev next : Option ℕ) (k : ℕ) → is_some (rows.get m k) ≡ true → is_some (rows.get (follow_at C (lead_at C m prev next) next prev) k) ≡ true
live_joined C m prev next k there =
    seen-follow_at C is_some (λ row from. refl) (lead_at C m prev next) next prev k
    ∙ seen-lead_at C is_some (λ row to. refl) m prev next k
    ∙ there
