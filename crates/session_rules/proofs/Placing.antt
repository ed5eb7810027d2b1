-- Journals as edits in order.
use Rattle.std.proofs.Common.{◌≡◌, ℕ, Bool, List, [], ◌∷◌, Some, ap, ◌∙◌}
use Rattle.std.specs.Prelude.{option_and_then}
use Rattle.emh_base.specs.declared.state.State.{State}
use Rattle.emh_base.specs.declared.edit.Change.{Change}
use Rattle.emh_base.specs.declared.edit.Edit.{Edit}
use Rattle.edit_rules.specs.Apply.{state_of, done_in_order}
use Rattle.edit_rules.proofs.SurvivalLemmas.{stays_good_in_order, stay_placed_in_order}
use Rattle.session_rules.specs.Take.{Wants}
use Rattle.session_rules.specs.React.{IsDone, react}
use Rattle.session_rules.specs.Journal.{Leads, steps_of, KeepsPlacements}
use Rattle.session_rules.specs.Law.{JournalsStayGood, CommandsStayGood, SurvivorsStayPlaced}
use Rattle.session_rules.proofs.Leading.{commands-lead}

leads-in_order : (J : List Change) (S T : State) → Leads S J T → done_in_order S (steps_of J) ≡ Some T
leads-in_order [] S T leads = ap Some leads
leads-in_order (c ∷ J) S T leads =
    ap (λ a. option_and_then (λ next. done_in_order next (steps_of J)) (state_of a)) leads.1
    ∙ leads-in_order J leads.0 T leads.2

pub journals-stay_good : JournalsStayGood
journals-stay_good S T J leads good = stays_good_in_order S T (steps_of J) good (leads-in_order J S T leads)

pub commands-stay_good : CommandsStayGood
commands-stay_good ws marks budget S T e J is good =
    journals-stay_good S T J (commands-lead ws marks budget S T e J is).0 good

pub survivors-stay_placed : SurvivorsStayPlaced
survivors-stay_placed S T J leads p q survives alone =
    stay_placed_in_order S T (steps_of J) p q (leads-in_order J S T leads) survives alone

pub commands-stay_placed : (ws : List Wants) (marks : List Bool) (budget : ℕ) (S T : State) (e : Edit) (J : List Change)
    → react ws marks budget S e ≡ IsDone T J → KeepsPlacements S J T
commands-stay_placed ws marks budget S T e J is =
    survivors-stay_placed S T J (commands-lead ws marks budget S T e J is).0
