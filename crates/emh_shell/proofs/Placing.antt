-- What survives a line's edit, or a turn of drawn edits, keeps its placement.
use Rattle.std.proofs.Common.{◌≡◌, ℕ, List, [], Option, Some, None, refl, sym, ◌∙◌, subst}
use Rattle.std.specs.Prelude.{Ok, Err}
use Rattle.emh_base.specs.declared.edit.Change.{Change}
use Rattle.emh_base.specs.declared.edit.Edit.{Edit}
use Rattle.emh_base.specs.declared.state.State.{State}
use Rattle.session_rules.specs.React.{Reaction, IsRefused, IsSpent, IsDone, react}
use Rattle.session_rules.specs.Session.{PlainSession}
use Rattle.session_rules.specs.Journal.{Leads, KeepsPlacements}
use Rattle.session_rules.proofs.Leading.{commands-lead}
use Rattle.session_rules.proofs.Placing.{survivors-stay_placed}
use Rattle.script_read.specs.Resolve.{Looked, resolution}
use Rattle.script_read.specs.declared.lines.Line.{Line}
use Rattle.emh_shell.specs.Answers.{Watched, Answer, Refuses, Accepts}
use Rattle.emh_shell.specs.Edits.{EditAnswers, resolved, reacted}
use Rattle.emh_shell.specs.Churn.{Churned, counted, churned_by, after_one}
use Rattle.gen_design.specs.Turn.{turn_edit, after_turn}
use Rattle.emh_shell.specs.Law.{EachEditKeepsPlacements, EachTurnKeepsPlacements}

abbrev Keeps : State → State → Type 0
Keeps before after = (journal : List Change) × Leads before journal after × KeepsPlacements before journal after

done : (line : Line) (before after : PlainSession) (text : List ℕ) (reaction : Reaction) → Accepts text after ≡ reacted line before reaction → (journal : List Change) × (reaction ≡ IsDone after.now journal)
done line before after text (IsRefused refusal) is = let never : Accepts text after ≡ Refuses _ = is in absurd (cc)
done line before after text IsSpent is = let never : Accepts text after ≡ Refuses _ = is in absurd (cc)
done line before after text (IsDone now journal) is =
    let same : Accepts text after ≡ Accepts _ _ = is in
    (journal, cc)

keeps : (W : Watched) (line : Line) (before after : PlainSession) (text : List ℕ) (looked : Option (Looked Edit)) → EditAnswers W line before looked (Accepts text after) → Keeps before.now after.now
keeps W line before after text None is = absurd is
keeps W line before after text (Some (Err refusal)) is = let never : Accepts text after ≡ Refuses _ = is in absurd (cc)
keeps W line before after text (Some (Ok edit)) is =
    let d = done line before after text (react W.wants before.enabled before.budget before.now edit) is in
    let leads = (commands-lead W.wants before.enabled before.budget before.now after.now edit d.0 d.1).0 in
    (d.0, leads, survivors-stay_placed before.now after.now d.0 leads)

pub each-edit-keeps : EachEditKeepsPlacements
each-edit-keeps W line before after text is = keeps W line before after text (resolution before.now line.command) is

-- a state that nothing was made of
stays : (S : State) → Keeps S S
stays S = ([], refl, survivors-stay_placed S S [] refl)

counted-keeps : (at : Churned) (W : Watched) (edit : Edit) (reaction : Reaction) → react W.wants at.session.enabled at.session.budget at.session.now edit ≡ reaction → Keeps at.session.now (counted at reaction).session.now
counted-keeps at W edit (IsRefused refusal) is = stays at.session.now
counted-keeps at W edit IsSpent is = stays at.session.now
counted-keeps at W edit (IsDone now journal) is =
    let leads = (commands-lead W.wants at.session.enabled at.session.budget at.session.now now edit journal is).0 in
    (journal, leads, survivors-stay_placed at.session.now now journal leads)

churned-keeps : (W : Watched) (at : Churned) (edit : Option Edit) → Keeps at.session.now (churned_by W at edit).session.now
churned-keeps W at None = stays at.session.now
churned-keeps W at (Some edit) = counted-keeps at W edit (react W.wants at.session.enabled at.session.budget at.session.now edit) refl

pub each-turn-keeps : EachTurnKeepsPlacements
each-turn-keeps W at turn =
    churned-keeps W (record at { random = after_turn at.random }) (turn_edit at.session.now.plain at.random turn)
