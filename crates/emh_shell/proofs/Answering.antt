-- What a line answers about the session, by whether one is open.
use Rattle.std.proofs.Common.{◌≡◌, ℕ, List, Some, None, refl}
use Rattle.session_rules.specs.Session.{PlainSession}
use Rattle.emh_shell.specs.Progress.{Progress, refusing, going_on}
use Rattle.emh_shell.specs.Answers.{Answer, Refuses, Accepts, Answered, no_design_line}

module _ (number : ℕ) (first : List ℕ) (Has : PlainSession → Answer → Type 0) (s t : Progress) (said : List ℕ) where
  pub refused_closed : s.session ≡ None → said ≡ no_design_line number first → t ≡ refusing s → Answered number first Has s said t
  refused_closed closed says leads = record { answer = Refuses (no_design_line number first); has = rw closed refl; prints = says; leads = leads }

  pub refused_in : (session : PlainSession) → s.session ≡ Some session → Has session (Refuses said) → t ≡ refusing s → Answered number first Has s said t
  refused_in session in_it has leads = record { answer = Refuses said; has = rw in_it has; prints = refl; leads = leads }

  pub accepted_in : (session next : PlainSession) → s.session ≡ Some session → Has session (Accepts said next) → t ≡ going_on s next → Answered number first Has s said t
  accepted_in session next in_it has leads = record { answer = Accepts said next; has = rw in_it has; prints = refl; leads = leads }
