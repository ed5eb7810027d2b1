use Rattle.std.proofs.Common.{map}
use Rattle.session_rules.proofs.Placing.{commands-stay_placed}
use Rattle.emh_session.proofs.Commands.{answers-command, stays-closed}
use Rattle.emh_session.proofs.session.Session.command.Goals as goal

pub invariant_of-self : goal.invariant_of-self
invariant_of-self g c = record {
  closed = stays-closed _ c.self.inside.budget c.self.inside.desk c.run_command.new.desk c.run_command.result c.self.invariant.closed c.run_command.ensures;
  budget = c.self.invariant.budget;
  few = c.self.invariant.few;
}

pub returns-clause-answers : goal.returns-clause-answers
returns-clause-answers g c =
    rw (← c.self.view_is)
    (answers-command _ c.self.inside.enabled.items c.self.inside.budget c.self.inside.desk c.run_command.new.desk c.run_command.result
    (rw c.as_slice.ensures.value at c.run_command.ensures))

pub returns-clause-placed : goal.returns-clause-placed
returns-clause-placed g c =
    commands-stay_placed (map (λ b. (goal.Observer-dyn g (b.vtable, b.value)).wants b.value) c.args.watch.now) c.args.self.now.enabled
    c.args.self.now.budget c.args.self.now.now _ c.args.edit
