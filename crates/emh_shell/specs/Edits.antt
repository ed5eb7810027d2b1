-- The lines of edits.
use Rattle.std.specs.Prelude.{◌≡◌, ℕ, ◌-◌, length, Option, Some, None, Ok, Err}
use Rattle.emh_base.specs.declared.edit.Edit.{Edit}
use Rattle.session_rules.specs.React.{Reaction, IsRefused, IsSpent, IsDone, react}
use Rattle.session_rules.specs.Session.{PlainSession, commanded}
use Rattle.script_read.specs.Resolve.{Looked, resolution}
use Rattle.script_read.specs.declared.lines.Line.{Line}
use Rattle.emh_shell.specs.Printing.{edit_line, refused_line, number_object}
use Rattle.emh_shell.specs.Answers.{Watched, Answer, Refuses, Accepts}
use Rattle.emh_shell.specs.Objects.{rule_line}

-- An edit is a command of the session. A rule refuses it, or the budget of its observers is used up, or it tells how many
-- changes they have made.
abbrev pub reacted : Line → PlainSession → Reaction → Answer
reacted line session (IsRefused refusal) = Refuses (rule_line session.now.plain line refusal)
reacted line session IsSpent = Refuses (refused_line line.number 28 (number_object session.budget))
reacted line session (IsDone now journal) =
    Accepts (edit_line line.number (length journal - 1)) (commanded session (IsDone now journal))

-- before that its names are looked up
abbrev pub resolved : Watched → Line → PlainSession → Looked Edit → Answer
resolved W line session (Ok edit) =
    reacted line session (react W.wants session.enabled session.budget session.now edit)
resolved W line session (Err refusal) = Refuses (rule_line session.now.plain line refusal)

abbrev pub EditAnswers : Watched → Line → PlainSession → Option (Looked Edit) → Answer → Type 0
EditAnswers W line session None answer = ⊥
EditAnswers W line session (Some looked) answer = answer ≡ resolved W line session looked
