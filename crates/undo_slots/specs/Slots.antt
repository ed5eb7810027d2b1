-- Rows in a slab, seen as a finite map.
use Rattle.std.specs.Prelude.{ℕ, ◌+◌, ◌-◌, List, [], ◌∷◌, Option, Some, None}
use Rattle.std.specs.Option.{option_map_or}
use Rattle.std.specs.Ordering.{nat_cmp}
use Rattle.std.specs.FinMap as map
use Rattle.slab.specs.Slab.{get, slab_len}
use Rattle.std.specs.Cmp.{nat_cmp_total}
use Rattle.timeline.specs.Maps.{put, IsKeyOrder}
use Rattle.undo_slots.specs.declared.slots.Row.{Row}
use Rattle.undo_slots.specs.declared.slots.Slots.{Slots}

pub nat_order : IsKeyOrder nat_cmp
nat_order = record { total = nat_cmp_total; exact = map.nat_cmp-IsAntisymmetric }

-- a finite map from keys to rows
abbrev pub Rows : Type 0 → Type 0
Rows T = map.FinMap nat_cmp T

module _ {T : Type 0} where
  abbrev pub value_of : Option (Row T) → Option T
  value_of None = None
  value_of (Some row) = row.value

  -- the live rows of these slots, where the first has this key
  abbrev pub live_from : ℕ → List (Option (Row T)) → Rows T
  live_from key [] = map.empty
  live_from key (slot ∷ rest) = put (live_from (key + 1) rest) key (value_of slot)

  -- the live rows
  unfoldable pub live_rows : Slots T → Rows T
  live_rows s = live_from 0 s.rows.slots

  -- how many swaps that are kept name this key
  abbrev pub mentions_at : Slots T → ℕ → ℕ
  mentions_at s key = option_map_or (λ row. row.mentions) (get s.rows key) 0

  -- how many rows can come without memory
  abbrev pub room_in : Slots T → ℕ
  room_in s = s.rows.capacity - slab_len s.rows
