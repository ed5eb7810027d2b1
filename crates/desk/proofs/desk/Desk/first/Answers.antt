use Rattle.std.proofs.Common.{◌≡◌, [], ap, sym, subst, ◌∙◌, arith}
use Rattle.desk.specs.Desk.{DeskView}
use Rattle.desk.proofs.Moves.{good-some}
use Rattle.desk.proofs.Changes.{first-done}
use Rattle.desk.proofs.desk.Desk.first.Goals as goal

pub invariant_of-self-in_err-change : goal.invariant_of-self-in_err-change
invariant_of-self-in_err-change c =
    let good = c.self.invariant.good in
    record {
      good = record {
        now = c.apply_plain.ensures.good;
        past = rw c.reserve.ensures.items good.past;
        future = rw c.reserve-2.ensures.items good.future;
        begin = good.begin;
      };
      room = record { in_past = omega arith; in_future = omega arith };
      within = rw c.reserve-3.ensures.len c.self.invariant.within;
    }

pub invariant_of-self-2 : goal.invariant_of-self-2
invariant_of-self-2 c =
    let good = c.self.invariant.good in
    let asked : c.self.inside.asked ≡ 0 = ap (λ (d : DeskView). d.asked) c.self.view_is ∙ c.requires.closed.asked in
    let budget : c.self.inside.budget ≡ 0 = ap (λ (d : DeskView). d.budget) c.self.view_is ∙ c.requires.closed.budget in
    record {
      good = record {
        now = c.apply_plain.ensures.good;
        past = rw c.reserve.ensures.items good.past;
        future = rw c.reserve-2.ensures.items good.future;
        begin = good-some _ _ c.in_ok-base.ensures good.now;
      };
      room = record {
        in_past = omega (arith, c.in_ok-reserve.ensures.ok);
        in_future = omega (arith, c.in_ok-reserve-2.ensures.ok);
      };
      within = record { room = omega arith; one = omega arith; few = c.requires.budget };
    }

pub returns-clause-answers : goal.returns-clause-answers
returns-clause-answers c =
    let Empty : DeskView → Type 0 = λ d. d.journal ≡ [] in
    let empty = subst Empty (sym c.self.view_is) c.requires.closed.journal in
    let d = c.self.inside in
    let view : DeskView = record {
      state = d.state;
      past = d.past.items;
      future = d.future.items;
      base = d.base;
      journal = d.journal.items;
      asked = d.asked;
      budget = d.budget;
      speaker = d.speaker;
    } in
    rw (← c.self.view_is)
    (first-done view c.args.edit c.args.budget c.apply_plain.new.state c.in_ok-change.change _ _ c.in_ok-base.base _ _
    c.in_ok-change.ensures.answers c.reserve.ensures.items c.reserve-2.ensures.items c.in_ok-base.ensures
    c.reserve-3.ensures.items empty c.push_reserved.ensures.items)
