-- A made table that is opened, and one that isn't.
use Rattle.std.proofs.Common.{◌≡◌, ℕ, List, Ok, Err}
use Rattle.emh_base.specs.declared.state.State.{State}
use Rattle.edit_rules.specs.declared.opening.OpenFault.{OpenFault}
use Rattle.edit_rules.specs.Opening.{open_code}
use Rattle.gen_design.specs.Made.{made, top_name}
use Rattle.emh_shell.specs.Progress.{Progress, refusing, opening}
use Rattle.emh_shell.specs.Printing.{ok_line, refused_line, module_object}
use Rattle.emh_shell.specs.Fetching.{Opens}
use Rattle.emh_shell.specs.Made.{OpensMade}

module _ (number seed modules width : ℕ) (s t : Progress) (said : List ℕ) where
  pub made_open : (design : State) → Opens (made seed modules width) (top_name modules) (Ok design) → said ≡ ok_line number → t ≡ opening s design → OpensMade number seed modules width s said t
  made_open design opens prints leads = record { reply = Ok design; opens = opens; prints = prints; leads = leads }

  pub made_shut : (fault : OpenFault) → Opens (made seed modules width) (top_name modules) (Err fault) → said ≡ refused_line number (open_code fault) (module_object (top_name modules)) → t ≡ refusing s → OpensMade number seed modules width s said t
  made_shut fault opens prints leads = record { reply = Err fault; opens = opens; prints = prints; leads = leads }
