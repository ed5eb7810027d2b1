-- What a desk's fields keep, that its value doesn't show.
use Rattle.std.specs.Prelude.{ℕ, ◌+◌, ◌≤◌, List, Option, Some, None}
use Rattle.std.specs.List.{AllByRecursion}
use Rattle.std.specs.Option.{ForSome}
use Rattle.emh_base.specs.declared.state.State.{State}
use Rattle.edit_rules.specs.Good.{IsGoodState}

-- each state that can be gone to is good
pub record AreGood (state : State) (before after : List State) (base : Option State) : Type 0 where
  pub now : IsGoodState state
  pub past : AllByRecursion IsGoodState before
  pub future : AllByRecursion IsGoodState after
  pub begin : ForSome base IsGoodState

-- how many states more are to be remembered at the end of the command, if one is open
abbrev pub more : Option State → ℕ
more None = 0
more (Some base) = 1

-- there is room for what `keep`, `undo` and `redo` move, so these take no memory: no state is lost
-- but by them, so one number serves for both lists
pub record HasRoom (past future more past_room future_room : ℕ) : Type 0 where
  pub in_past : past + future + more ≤ past_room
  pub in_future : past + future + more ≤ future_room

-- a journal is within its budget
pub record IsWithin (entries asked budget : ℕ) : Type 0 where
  pub room : entries ≤ budget + asked
  pub one : asked ≤ 1
  pub few : budget ≤ 100000
