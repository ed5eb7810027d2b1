-- After turns, by what was tallied of them.
use Rattle.std.specs.Prelude.{ℕ}
use Rattle.session_rules.specs.Session.{PlainSession}
use Rattle.emh_shell.specs.Churn.{Churned}
use Rattle.emh_shell.specs.declared.churn.Tally.{Tally}

abbrev pub tallied : PlainSession → Tally → Churned
tallied session tally = record {
  session = session;
  random = tally.random;
  accepted = tally.accepted;
  refused = tally.refused;
}
