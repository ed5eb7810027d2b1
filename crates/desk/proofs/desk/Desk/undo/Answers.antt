use Rattle.std.proofs.Common.{[], ◌∷◌, ◌++◌, ap, ◌∙◌, arith}
use Rattle.emh_base.specs.declared.state.State.{State}
use Rattle.desk.proofs.Moves.{good-moved}
use Rattle.desk.proofs.desk.Desk.undo.Goals as goal

pub invariant_of-self : goal.invariant_of-self
invariant_of-self c =
    let good = c.self.invariant.good in
    let joined = c.push_reserved.ensures.items ∙ ap (λ (s : State). c.self.inside.future.items ++ s ∷ []) c.replace-now.ensures.value in
    let moved = good-moved _ _ _ _ _ _ c.take_last-before.ensures.items joined good.now good.past good.future in
    record {
      good = record { now = rw c.replace-now.ensures.after moved.0; past = moved.1; future = moved.2; begin = good.begin };
      room = record { in_past = omega arith; in_future = omega arith };
      within = c.self.invariant.within;
    }
