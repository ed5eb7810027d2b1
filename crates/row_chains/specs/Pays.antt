-- What a call may cost.
use Rattle.std.specs.Prelude.{◌≡◌, ℕ, ◌+◌, ◌≤◌}
use Rattle.timeline.specs.Timeline.{Timeline}

-- At most so many writes are made in the open record, and a spare falls by no more than the writes that were made. The
-- past, the future and the base stay.
pub record Pays {X : Type 0} (most : ℕ) (before after : Timeline X) : Type 0 where
  pub rest : after ≡ record before {
    now = after.now;
    writes = after.writes;
    spare_rows = after.spare_rows;
    spare_writes = after.spare_writes;
  }
  pub counted : before.writes ≤ after.writes
  pub made : after.writes ≤ before.writes + most
  pub rows : before.spare_rows + before.writes ≤ after.spare_rows + after.writes
  pub spare : before.spare_writes + before.writes ≤ after.spare_writes + after.writes
