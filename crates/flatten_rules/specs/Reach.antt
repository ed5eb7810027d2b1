-- What following the edges of a graph keeps: the nodes that were reached, in order.
use Rattle.std.specs.Prelude.{◌≡◌, ℕ, ◌<◌, Bool, true, false, List, ◌++◌, length, slice_index_or, nat_eq, All, Contains}
use Rattle.std.specs.List.{IsDistinct, list_any}

-- the flags tell for each node whether it is among those, and none is there twice
pub record AreMarked (order : List ℕ) (flags : List Bool) : Type 0 where
  pub marks : (k : ℕ) → k < length flags → slice_index_or flags k false ≡ list_any (nat_eq k) order
  pub below : (k : ℕ) → list_any (nat_eq k) order ≡ true → k < length flags
  pub once : IsDistinct nat_eq order

-- what is added to some nodes is of those to be added, and all of them are there after it
pub record Adds (old nodes new : List ℕ) : Type 0 where
  pub more : List ℕ
  pub all : new ≡ old ++ more
  pub from : All (Contains nodes) more
  pub there : All (Contains new) nodes
