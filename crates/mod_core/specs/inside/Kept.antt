-- The tables over all moments.
use Rattle.std.specs.Prelude.{ℕ, List, length}
use Rattle.timeline.specs.Timeline.{Timeline}
use Rattle.timeline.specs.Joined.{join, IsJoint}
use Rattle.undo_slots.specs.Slots.{Rows}
use Rattle.mod_core.specs.declared.rows.TopRow.{TopRow}
use Rattle.mod_core.specs.declared.rows.ModRow.{ModRow}
use Rattle.mod_core.specs.declared.rows.NetRow.{NetRow}
use Rattle.mod_core.specs.declared.rows.InstRow.{InstRow}
use Rattle.mod_core.specs.inside.Linked.{upper, lower, whole_of}
use Rattle.mod_core.specs.inside.Good.{IsWhole}
use Rattle.mod_core.specs.Mods.{KeptTable}

-- two tables are asked nothing but to move together
abbrev pub Together : {X Y : Type 0} → X → Y → Type 0
Together x y = Unit {0}

-- the tables move together, and their rows are as they ought to be in each moment
pub record IsKept (names : List (List ℕ)) (top : ℕ) (tops : Timeline (Rows TopRow))
    (mods : Timeline (Rows ModRow)) (nets : Timeline (Rows NetRow))
    (insts : Timeline (Rows InstRow)) : Type 0 where
  pub heads : IsJoint Together tops mods
  pub middle : IsJoint Together (join upper tops mods) nets
  pub all : IsJoint (IsWhole (length names) top) (join lower (join upper tops mods) nets) insts

-- what contracts see of them
abbrev pub kept_of : List (List ℕ) → ℕ → Timeline (Rows TopRow) → Timeline (Rows ModRow)
    → Timeline (Rows NetRow) → Timeline (Rows InstRow) → KeptTable
kept_of names top tops mods nets insts = record {
  names = names;
  table = join (whole_of names top) (join lower (join upper tops mods) nets) insts;
}
