use Rattle.std.proofs.Common.{◌≡◌, Some, sym, ap, ◌∙◌, arith}
use Rattle.desk.specs.inside.Room.{more}
use Rattle.desk.proofs.Moves.{good-push, good-base, good-none}
use Rattle.desk.proofs.Changes.{keeps}
use Rattle.desk.proofs.desk.Desk.keep.Goals as goal

pub invariant_of-self : goal.invariant_of-self
invariant_of-self c =
    let some : c.self.inside.base ≡ Some c.unwrap-base.result = sym c.take.ensures.value ∙ c.unwrap-base.ensures in
    let one : more c.self.inside.base ≡ 1 = ap more some in
    let none : more c.take.new.self ≡ 0 = ap more c.take.ensures.after in
    let good = c.self.invariant.good in
    record {
      good = record {
        now = good.now;
        past = rw c.push_reserved.ensures.items (good-push _ _ good.past (good-base _ _ some good.begin));
        future = rw c.clear.ensures.items tt;
        begin = good-none _ c.take.ensures.after;
      };
      room = record { in_past = omega arith; in_future = omega arith };
      within = c.self.invariant.within;
    }

pub returns : goal.returns
returns c =
    rw (← c.self.view_is)
    (keeps _ _ c.unwrap-base.result c.take.new.self _ _ (sym c.take.ensures.value ∙ c.unwrap-base.ensures)
    c.push_reserved.ensures.items c.clear.ensures.items c.close.ensures)
