use Rattle.std.proofs.Common.{◌≡◌, None, false, true, ap, sym, subst, arith, ◌∙◌}
use Rattle.flatten_rules.specs.Check.{first_broken}
use Rattle.edit_rules.specs.Apply.{checks}
use Rattle.desk.specs.Desk.{DeskView}
use Rattle.desk.proofs.Changes.{budget-spent, apply-done}
use Rattle.desk.proofs.desk.Desk.apply.Goals as goal

pub returns-then-is_full-clause-answers : goal.returns-then-is_full-clause-answers
returns-then-is_full-clause-answers c =
    let P : DeskView → Type 0 = λ d. first_broken (checks d.state c.args.edit) ≡ None in
    budget-spent c.args.self.now c.args.edit c.self.inside.budget (subst P c.self.view_is c.in_ok-judge.ensures)
    (c.is_full.ensures.0 c.if-is_full.true) (ap (λ (d : DeskView). d.budget) c.self.view_is)

pub returns-clause-answers : goal.returns-clause-answers
returns-clause-answers c =
    let is = rw (← c.self.view_is) at c.is_full.ensures in
    rw (← c.self.view_is)
    (apply-done _ c.args.edit c.apply_plain.new.state c.in_ok-change.change _ _ c.in_ok-change.ensures.answers
    (λ full. let never : false ≡ true = sym c.if-is_full.false ∙ is.1 full in cc)
    (omega (arith, c.self.invariant.within.room, c.self.inside.journal.ok.0)) c.in_ok-reserve.ensures.items c.push_reserved.ensures.items)
