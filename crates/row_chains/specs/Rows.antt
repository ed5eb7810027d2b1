-- Chains of a table's rows. A row of the table need not be in the chain that is spoken of.
use Rattle.std.specs.Prelude.{◌≡◌, ℕ, ◌≤◌, ◌==◌, Bool, false, List, length, Option, Some, None, option_map, option_and_then, find}
use Rattle.std.specs.List.{filter_map}
use Rattle.std.specs.FinMap as map
use Rattle.timeline.specs.Maps.{put}
use Rattle.undo_slots.specs.Slots.{Rows}
use Rattle.row_chains.specs.declared.link.Link.{Link}
use Rattle.row_chains.specs.declared.link.Ends.{Ends}
use Rattle.row_chains.specs.Chains.{first_or, AreLinked, walk, with_next, with_prev}

-- how the rows of a kind of chain are linked
pub record ChainRows (R : Type 0) : Type 0 where
  pub link_of : R → Option Link
  pub lead : R → Option ℕ → R
  pub follow : R → Option ℕ → R
  pub leads : (row : R) (to : Option ℕ) → link_of (lead row to) ≡ with_next to (link_of row)
  pub follows : (row : R) (from : Option ℕ)
      → link_of (follow row from) ≡ with_prev from (link_of row)

-- where a row that owns a chain holds its ends
pub record ChainHolders (O : Type 0) : Type 0 where
  pub ends_of : O → Ends
  pub with_ends : O → Ends → O
  pub holds : (holder : O) (ends : Ends) → ends_of (with_ends holder ends) ≡ ends
  pub as_it_was : (holder : O) → with_ends holder (ends_of holder) ≡ holder

module _ {R : Type 0} (C : ChainRows R) where
  -- the links of a table's rows
  abbrev pub links : Rows R → ℕ → Option Link
  links m k = option_and_then C.link_of (map.get m k)

  -- the keys of a chain; it has no more than the table has rows
  abbrev pub keys : Rows R → Option ℕ → List ℕ
  keys m start = walk (links m) (map.len m) start

  -- what a chain's rows show, each that shows something
  abbrev pub listed : {X : Type 0} → (ℕ → Option X) → Rows R → Option ℕ → List X
  listed shows m start = filter_map shows (keys m start)

  -- these keys are the way from a key along a chain to its end
  pub record IsWay (m : Rows R) (start : Option ℕ) (ks : List ℕ) : Type 0 where
    pub owner : ℕ
    pub before : Option ℕ
    pub begins : start ≡ first_or ks None
    pub linked : AreLinked (links m) owner before ks None
    pub few : length ks ≤ map.len m

  -- the row at the key, where there is one, has another neighbour

  abbrev pub lead_at : Rows R → Option ℕ → Option ℕ → Rows R
  lead_at m None to = m
  lead_at m (Some k) to = put m k (option_map (λ row. C.lead row to) (map.get m k))

  abbrev pub follow_at : Rows R → Option ℕ → Option ℕ → Rows R
  follow_at m None from = m
  follow_at m (Some k) from = put m k (option_map (λ row. C.follow row from) (map.get m k))

-- a row has the number
abbrev pub row_is_numbered : {R : Type 0} → (R → ℕ) → ℕ → Option R → Bool
row_is_numbered number_of number None = false
row_is_numbered number_of number (Some row) = number_of row == number

abbrev pub is_numbered : {R : Type 0} → (R → ℕ) → Rows R → ℕ → ℕ → Bool
is_numbered number_of m number k = row_is_numbered number_of number (map.get m k)

-- the ends of the chains that a table's rows own
abbrev pub ends_in : {O : Type 0} → ChainHolders O → Rows O → ℕ → Option Ends
ends_in H m k = option_map H.ends_of (map.get m k)

-- the key of the first row with a number in the chain that a row owns; none where that row isn't there
module _ {R O : Type 0} (C : ChainRows R) (H : ChainHolders O) (number_of : R → ℕ) (m : Rows R) where
  abbrev pub key_under : ℕ → Option O → Option ℕ
  key_under number None = None
  key_under number (Some holder) =
      find (is_numbered number_of m number) (keys C m (H.ends_of holder).first)

  abbrev pub key_in : Rows O → ℕ → ℕ → Option ℕ
  key_in holders owner number = key_under number (map.get holders owner)
