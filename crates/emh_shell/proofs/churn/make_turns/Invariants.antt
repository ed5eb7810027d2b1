-- So many turns are made.
use Rattle.std.proofs.Common.{◌≡◌, ◌+◌, ◌≤◌}
use Rattle.emh_shell.specs.Answers.{watched}
use Rattle.emh_shell.specs.Churn.{churned}
use Rattle.emh_shell.specs.inside.Churning.{tallied}
use Rattle.emh_shell.proofs.churn.make_turns.Given as goal

abbrev pub invariant-loop-turn : goal.invariant-loop-turn
invariant-loop-turn g l = record {
  made : l.tally.accepted + l.tally.refused ≤ l.turn;
  marks : l.session.enabled ≡ l.initial.session.enabled;
  churned :
      tallied l.session l.tally
      ≡ churned
      (watched (λ b. (goal.Observer-dyn g (b.vtable, b.value)).called b.value) (λ b. (goal.Observer-dyn g (b.vtable, b.value)).wants b.value) l.watch)
      l.initial.session l.seed l.turn;
}
