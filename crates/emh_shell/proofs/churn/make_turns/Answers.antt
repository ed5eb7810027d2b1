use Rattle.std.proofs.Common.{ap, ◌∙◌, add-one}
use Rattle.emh_shell.specs.Answers.{Watched, watched}
use Rattle.emh_shell.specs.Churn.{after_one}
use Rattle.emh_shell.proofs.churn.make_turns.Goals as goal

pub loop-turn-preserved : goal.loop-turn-preserved
loop-turn-preserved g c =
    let W : Watched = watched (λ b. (goal.Observer-dyn g (b.vtable, b.value)).called b.value) (λ b. (goal.Observer-dyn g (b.vtable, b.value)).wants b.value) c.args.watch.now in
    record {
      made = c.in_ok-make_turn.ensures.made;
      marks = c.in_ok-make_turn.ensures.marks ∙ c.loop-turn.invariant.marks;
      churned =
          rw add-one
          (c.in_ok-make_turn.ensures.ok ∙ ap (λ at. after_one W at c.loop-turn.turn) c.loop-turn.invariant.churned);
    }
