-- What rows and a history of their changes say together.
use Rattle.std.specs.Prelude.{◌≡◌, ℕ, ◌+◌, ◌≤◌, ◌<◌, ◌^◌, [], Bool, true, false, None, length, vec_capacity}
use Rattle.std.specs.VecDeque.{deque_capacity}
use Rattle.std.specs.List.{AllByRecursion}
use Rattle.std.specs.FinMap.{FinMap, get}
use Rattle.std.specs.declared.cmp.Ordering.{Ordering}
use Rattle.timeline.specs.Timeline.{Timeline}
use Rattle.timeline.specs.Steps.{moments_of, undo_swaps, swaps_of, steps_of, BeginsWithMark, marks_in}
use Rattle.timeline.specs.declared.history.History.{History}

-- an open record has a mark to come
abbrev pub marks : Bool → ℕ
marks false = 0
marks true = 1

module _ {K V : Type 0} where
  -- the steps that are kept or may come without memory
  abbrev pub kept_steps : History K V → ℕ
  kept_steps history =
      length history.past.items + length history.swaps.items + length history.future.items
      + marks history.is_open + history.spare_writes

  -- the timeline of live rows, with room for so many more
  abbrev pub timeline_of : {R : K → K → Ordering} → FinMap R V → ℕ → History K V
      → Timeline (FinMap R V)
  timeline_of live room history =
      record {
        now = live;
        past = moments_of history.past.items (undo_swaps history.swaps.items live);
        future = moments_of history.future.items (undo_swaps history.swaps.items live);
        is_open = history.is_open;
        base = undo_swaps history.swaps.items live;
        writes = length history.swaps.items;
        spare_rows = room;
        spare_writes = history.spare_writes;
      }

  -- the swaps of each key are counted, and the spare writes have room wherever they may go
  pub record IsKept (R : K → K → Ordering) (mentions : K → ℕ) (history : History K V) : Type 0 where
    pub counts : (k : K) → mentions k
        ≡ steps_of R k history.past.items + swaps_of R k history.swaps.items
        + steps_of R k history.future.items
    pub past_fits : kept_steps history ≤ deque_capacity history.past
    pub future_fits : kept_steps history ≤ deque_capacity history.future
    pub swaps_fit : length history.swaps.items + history.spare_writes ≤ vec_capacity history.swaps
    pub small : kept_steps history < 2 ^ 64
    pub closed : history.is_open ≡ false → history.swaps.items ≡ []
    pub past_counted : history.past_len ≡ marks_in history.past.items
    pub future_counted : history.future_len ≡ marks_in history.future.items
    pub past_begins : BeginsWithMark history.past.items
    pub future_begins : BeginsWithMark history.future.items

  -- no map of the timeline has the key
  pub record IsFresh {R : K → K → Ordering} (s : Timeline (FinMap R V)) (key : K) : Type 0 where
    pub now : get s.now key ≡ None
    pub base : get s.base key ≡ None
    pub past : AllByRecursion (λ t. get t.value key ≡ None) s.past
    pub future : AllByRecursion (λ t. get t.value key ≡ None) s.future
