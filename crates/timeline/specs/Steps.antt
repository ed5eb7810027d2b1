-- What a list of kept swaps says of earlier maps.
use Rattle.std.specs.Prelude.{ℕ, ◌+◌, List, [], ◌∷◌, Option, None, Some}
use Rattle.std.specs.FinMap.{FinMap}
use Rattle.std.specs.declared.cmp.Ordering.{Ordering}
use Rattle.timeline.specs.Maps.{put, one_at}
use Rattle.timeline.specs.Timeline.{Moment}
use Rattle.timeline.specs.declared.steps.Swap.{Swap}
use Rattle.timeline.specs.declared.steps.Step.{Step}
use Rattle.timeline.specs.declared.steps.Step.TheVariants.{Mark, Write}

-- where a walk back through steps has come: the map there, the writes since the last mark, and the moments passed, the
-- farthest first
pub record Trail {K : Type 0} (R : K → K → Ordering) (V : Type 0) : Type 0 where
  pub at : FinMap R V
  pub writes : ℕ
  pub moments : List (Moment (FinMap R V))

module _ {K V : Type 0} {R : K → K → Ordering} where
  abbrev pub start_at : FinMap R V → Trail R V
  start_at m = record { at = m; writes = 0; moments = [] }

  abbrev pub step_back : Step K V → Trail R V → Trail R V
  step_back Mark t =
      record { at = t.at; writes = 0; moments = record { value = t.at; writes = t.writes } ∷ t.moments }
  step_back (Write swap) t =
      record { at = put t.at swap.key swap.value; writes = t.writes + 1; moments = t.moments }

  -- the walk back through these steps, from the last
  abbrev pub walk_back : List (Step K V) → Trail R V → Trail R V
  walk_back [] t = t
  walk_back (step ∷ steps) t = step_back step (walk_back steps t)

  -- the maps at the marks, the farthest first
  abbrev pub moments_of : List (Step K V) → FinMap R V → List (Moment (FinMap R V))
  moments_of steps m = (walk_back steps (start_at m)).moments

  -- the map before these swaps
  abbrev pub undo_swaps : List (Swap K V) → FinMap R V → FinMap R V
  undo_swaps [] m = m
  undo_swaps (swap ∷ swaps) m = put (undo_swaps swaps m) swap.key swap.value

module _ {K V : Type 0} (R : K → K → Ordering) where
  -- how many of these swaps name the key
  abbrev pub swaps_of : K → List (Swap K V) → ℕ
  swaps_of key [] = 0
  swaps_of key (swap ∷ swaps) = one_at R swap.key key + swaps_of key swaps

  -- how many of these steps name the key
  abbrev pub steps_of : K → List (Step K V) → ℕ
  steps_of key [] = 0
  steps_of key (Mark ∷ steps) = steps_of key steps
  steps_of key (Write swap ∷ steps) = one_at R swap.key key + steps_of key steps

module _ {K V : Type 0} where
  -- the list is empty or begins with a mark
  abbrev pub BeginsWithMark : List (Step K V) → Type 0
  BeginsWithMark [] = Unit {0}
  BeginsWithMark (Mark ∷ steps) = Unit {0}
  BeginsWithMark (Write swap ∷ steps) = ⊥

  -- no step is a mark
  abbrev pub OnlyWrites : List (Step K V) → Type 0
  OnlyWrites [] = Unit {0}
  OnlyWrites (Mark ∷ steps) = ⊥
  OnlyWrites (Write swap ∷ steps) = OnlyWrites steps

  -- the key of the first step, if it is a write
  abbrev pub key_of_first : List (Step K V) → Option K
  key_of_first [] = None
  key_of_first (Mark ∷ steps) = None
  key_of_first (Write swap ∷ steps) = Some swap.key

  -- how many of these steps are marks
  abbrev pub marks_in : List (Step K V) → ℕ
  marks_in [] = 0
  marks_in (Mark ∷ steps) = marks_in steps + 1
  marks_in (Write swap ∷ steps) = marks_in steps
