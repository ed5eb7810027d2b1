-- Two things that are changed, undone and redone together, seen as one.
use Rattle.std.specs.Prelude.{◌≡◌, ◌+◌, min, List, [], ◌∷◌}
use Rattle.timeline.specs.Timeline.{Moment, Timeline}

module _ {X Y Z : Type 0} (see : X → Y → Z) where
  -- the moments of both, side by side
  abbrev pub joined : List (Moment X) → List (Moment Y) → List (Moment Z)
  joined [] ys = []
  joined (x ∷ xs) [] = []
  joined (x ∷ xs) (y ∷ ys) =
      record { value = see x.value y.value; writes = x.writes + y.writes } ∷ joined xs ys

  -- one timeline of both, open where the first is
  abbrev pub join : Timeline X → Timeline Y → Timeline Z
  join a b =
      record {
        now = see a.now b.now;
        past = joined a.past b.past;
        future = joined a.future b.future;
        is_open = a.is_open;
        base = see a.base b.base;
        writes = a.writes + b.writes;
        spare_rows = min a.spare_rows b.spare_rows;
        spare_writes = min a.spare_writes b.spare_writes;
      }

module _ {X Y : Type 0} (P : X → Y → Type 0) where
  -- the lists are of one length, and the fact holds at each place
  abbrev pub AreTied : List (Moment X) → List (Moment Y) → Type 0
  AreTied [] [] = Unit {0}
  AreTied [] (y ∷ ys) = ⊥
  AreTied (x ∷ xs) [] = ⊥
  AreTied (x ∷ xs) (y ∷ ys) = P x.value y.value × AreTied xs ys

  -- a record is open in both or in none, and the fact holds at each moment
  pub record IsJoint (a : Timeline X) (b : Timeline Y) : Type 0 where
    pub opens : a.is_open ≡ b.is_open
    pub now : P a.now b.now
    pub base : P a.base b.base
    pub past : AreTied a.past b.past
    pub future : AreTied a.future b.future
