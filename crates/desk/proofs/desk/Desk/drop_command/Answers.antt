use Rattle.std.proofs.Common.{◌≡◌, Some, sym, ap, ◌∙◌, arith}
use Rattle.desk.specs.inside.Room.{more}
use Rattle.desk.proofs.Moves.{good-base, good-none}
use Rattle.desk.proofs.Changes.{drops}
use Rattle.desk.proofs.desk.Desk.drop_command.Goals as goal

pub invariant_of-self : goal.invariant_of-self
invariant_of-self c =
    let some : c.self.inside.base ≡ Some c.unwrap.result = sym c.take.ensures.value ∙ c.unwrap.ensures in
    let none : more c.take.new.self ≡ 0 = ap more c.take.ensures.after in
    let good = c.self.invariant.good in
    record {
      good = record {
        now = good-base _ _ some good.begin;
        past = good.past;
        future = good.future;
        begin = good-none _ c.take.ensures.after;
      };
      room = record { in_past = omega arith; in_future = omega arith };
      within = c.self.invariant.within;
    }

pub returns : goal.returns
returns c =
    rw (← c.self.view_is)
    (drops _ _ c.unwrap.result c.take.new.self (sym c.take.ensures.value ∙ c.unwrap.ensures) c.close.ensures)
