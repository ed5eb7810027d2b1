-- What bytes are as a table, and what is given of a desk.
use Rattle.std.specs.Prelude.{◌≡◌, Bool, List, [], ℕ, Result, Ok, Err}
use Rattle.emh_base.specs.declared.plain.Plain.{Plain}
use Rattle.emh_base.specs.declared.state.State.{State}
use Rattle.vlog_elab.specs.Reads.{Reads, HasReadFault}
use Rattle.desk.specs.Desk.{DeskView, IsClosed}
use Rattle.emh_shell.specs.declared.fault.FileFault.{FileFault}
use Rattle.emh_shell.specs.declared.fault.FileFault.TheVariants.{TooLong, Reading}

abbrev pub IsTable : Plain → Bool → List ℕ → Result Plain FileFault → Type 0
IsTable library all_leaf bytes (Ok plain) = Reads library all_leaf bytes plain
IsTable library all_leaf bytes (Err TooLong) = ⊥
IsTable library all_leaf bytes (Err (Reading fault)) = HasReadFault library all_leaf bytes fault

-- the state of a desk
abbrev pub state_of : {F : Type 0} → Result DeskView F → Result State F
state_of (Ok desk) = Ok desk.state
state_of (Err fault) = Err fault

-- nothing is remembered, and no command is open
pub record IsFresh (desk : DeskView) : Type 0 where
  pub closed : IsClosed desk
  pub past : desk.past ≡ []
  pub future : desk.future ≡ []
