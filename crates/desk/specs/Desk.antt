-- What a desk holds. This project's own.
use Rattle.std.specs.Prelude.{◌≡◌, ℕ, ◌+◌, List, [], Option, None}
use Rattle.std.specs.FinMap.{empty}
use Rattle.emh_base.specs.declared.ids.ModId.{ModId}
use Rattle.emh_base.specs.declared.plain.Plain.{Plain}
use Rattle.emh_base.specs.declared.state.State.{State}
use Rattle.emh_base.specs.declared.edit.By.{By}
use Rattle.emh_base.specs.declared.edit.By.TheVariants.{User}
use Rattle.emh_base.specs.declared.edit.Change.{Change}

-- The state; the states before, the newest last; those that were gone back from, the newest last.
-- While a command is open: the state at its begin, the changes that it has made, how many of the
-- first of these are the user's, how many observers may add, and who asks for the next one.
pub record DeskView : Type 0 where
  pub state : State
  pub past : List State
  pub future : List State
  pub base : Option State
  pub journal : List Change
  pub asked : ℕ
  pub budget : ℕ
  pub speaker : By

-- a desk without its command
abbrev pub closed : DeskView → DeskView
closed d = record d { base = None; journal = []; asked = 0; budget = 0; speaker = User }

-- no command is open
pub record IsClosed (d : DeskView) : Type 0 where
  pub base : d.base ≡ None
  pub journal : d.journal ≡ []
  pub asked : d.asked ≡ 0
  pub budget : d.budget ≡ 0
  pub speaker : d.speaker ≡ User

-- how many changes the journal may have
abbrev pub room_of : DeskView → ℕ
room_of d = d.budget + d.asked

-- a table that is opened at a top: nothing is placed, set or remembered
abbrev pub bare : Plain → ModId → State
bare M top = record {
  plain = M;
  top = top;
  places = empty;
  settings = record { fanout = None; grid = None };
}

abbrev pub opened : Plain → ModId → DeskView
opened M top = record {
  state = bare M top;
  past = [];
  future = [];
  base = None;
  journal = [];
  asked = 0;
  budget = 0;
  speaker = User;
}
