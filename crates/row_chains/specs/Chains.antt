-- Doubly linked chains of rows, seen as lists of keys. Nothing is asked of a row but its link.
use Rattle.std.specs.Prelude.{◌≡◌, ◌⊎◌, ℕ, zero, suc, List, [], ◌∷◌, Option, Some, None, IsSome}
use Rattle.row_chains.specs.declared.link.Link.{Link}
use Rattle.row_chains.specs.declared.link.Ends.{Ends}

-- the first of these keys, and where there is none what comes after
abbrev pub first_or : List ℕ → Option ℕ → Option ℕ
first_or [] after = after
first_or (k ∷ ks) after = Some k

-- the last of these keys, and where there is none what comes before
abbrev pub last_or : Option ℕ → List ℕ → Option ℕ
last_or before [] = before
last_or before (k ∷ ks) = last_or (Some k) ks

abbrev pub Has : ℕ → List ℕ → Type 0
Has x [] = ⊥
Has x (k ∷ ks) = (k ≡ x) ⊎ Has x ks

-- no key stands twice
abbrev pub AreApart : List ℕ → Type 0
AreApart [] = Unit {0}
AreApart (k ∷ ks) = (Has k ks → ⊥) × AreApart ks

-- the rows of these keys, of one owner, are linked in this order between two others
abbrev pub AreLinked : (ℕ → Option Link) → ℕ → Option ℕ → List ℕ → Option ℕ → Type 0
AreLinked row owner before [] after = Unit {0}
AreLinked row owner before (k ∷ ks) after =
    (row k ≡ Some (record { owner = owner; prev = before; next = first_or ks after }))
    × AreLinked row owner (Some k) ks after

-- the owner's chain between these ends is these keys, and they are all its rows
pub record IsChain (row : ℕ → Option Link) (owner : ℕ) (ends : Ends) (ks : List ℕ) : Type 0 where
  pub begins : ends.first ≡ first_or ks None
  pub stops : ends.last ≡ last_or None ks
  pub linked : AreLinked row owner None ks None
  pub apart : AreApart ks
  pub whole : (k : ℕ) (link : Link) → row k ≡ Some link → link.owner ≡ owner → Has k ks

-- each owner has its chain, and each row its owner
pub record AreChains (row : ℕ → Option Link) (ends_of : ℕ → Option Ends) : Type 0 where
  pub chain : (owner : ℕ) (ends : Ends) → ends_of owner ≡ Some ends
      → (ks : List ℕ) × IsChain row owner ends ks
  pub owned : (k : ℕ) (link : Link) → row k ≡ Some link → IsSome (ends_of link.owner)

abbrev pub next_of : Option Link → Option ℕ
next_of None = None
next_of (Some link) = link.next

-- the keys that a walk of so many steps comes to
abbrev pub walk : (ℕ → Option Link) → ℕ → Option ℕ → List ℕ
walk row zero start = []
walk row (suc steps) None = []
walk row (suc steps) (Some k) = k ∷ walk row steps (next_of (row k))

-- the link, where there is one, with another neighbour

abbrev pub with_next : Option ℕ → Option Link → Option Link
with_next to None = None
with_next to (Some link) = Some (record { owner = link.owner; prev = link.prev; next = to })

abbrev pub with_prev : Option ℕ → Option Link → Option Link
with_prev from None = None
with_prev from (Some link) = Some (record { owner = link.owner; prev = from; next = link.next })

-- the ends with a key that goes last

abbrev pub or_key : Option ℕ → ℕ → Option ℕ
or_key None k = Some k
or_key (Some first) k = Some first

abbrev pub ends_with : Ends → ℕ → Ends
ends_with ends key = record { first = or_key ends.first key; last = Some key }

-- the ends without a row that is so linked: its neighbour takes its place

abbrev pub unless_there : Option ℕ → Option ℕ → Option ℕ → Option ℕ
unless_there None taken kept = taken
unless_there (Some k) taken kept = kept

abbrev pub ends_without : Ends → Link → Ends
ends_without ends link = record {
  first = unless_there link.prev link.next ends.first;
  last = unless_there link.next link.prev ends.last;
}
