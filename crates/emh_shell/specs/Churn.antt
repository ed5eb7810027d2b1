-- The line `churn`: so many commands of the session, whose edits are drawn.
use Rattle.std.specs.Prelude.{ℕ, zero, suc, ◌+◌, nat_le, List, [], ◌∷◌, ◌++◌, Option, Some, None, codes, if◌then◌else◌}
use Rattle.std.specs.Fmt.{decimal}
use Rattle.emh_base.specs.declared.edit.Edit.{Edit}
use Rattle.session_rules.specs.React.{Reaction, IsRefused, IsSpent, IsDone, react}
use Rattle.session_rules.specs.Session.{PlainSession, commanded}
use Rattle.script_read.specs.declared.lines.Line.{Line}
use Rattle.reports.specs.Line.{line}
use Rattle.gen_design.specs.Turn.{turn_edit, after_turn}
use Rattle.emh_shell.specs.Printing.{ok_line}
use Rattle.emh_shell.specs.Answers.{Watched, Answer, Refuses, Accepts}
use Rattle.emh_shell.specs.Objects.{word_line}

-- after some turns: the session, the random number, and how many edits were accepted and refused
pub record Churned : Type 0 where
  pub session : PlainSession
  pub random : ℕ
  pub accepted : ℕ
  pub refused : ℕ

abbrev pub counted : Churned → Reaction → Churned
counted at (IsDone now journal) =
    record at { session = commanded at.session (IsDone now journal); accepted = at.accepted + 1 }
counted at IsSpent = record at { refused = at.refused + 1 }
counted at (IsRefused refusal) = record at { refused = at.refused + 1 }

-- the edit of a turn, where it has one, is a command of the session
abbrev pub churned_by : Watched → Churned → Option Edit → Churned
churned_by W at None = at
churned_by W at (Some edit) =
    counted at (react W.wants at.session.enabled at.session.budget at.session.now edit)

abbrev pub after_one : Watched → Churned → ℕ → Churned
after_one W at turn =
    churned_by W (record at { random = after_turn at.random }) (turn_edit at.session.now.plain at.random turn)

-- after so many turns, which are counted from 0
abbrev pub churned : Watched → PlainSession → ℕ → ℕ → Churned
churned W session seed zero = record { session = session; random = seed; accepted = 0; refused = 0 }
churned W session seed (suc turns) = after_one W (churned W session seed turns) turns

-- `turns C accepted A refused R`
abbrev pub churn_line : ℕ → ℕ → ℕ → List ℕ
churn_line turns accepted refused =
    line (codes "turns" ∷ decimal turns ∷ codes "accepted" ∷ decimal accepted
    ∷ codes "refused" ∷ decimal refused ∷ [])

abbrev pub churn_told : Line → ℕ → Churned → Answer
churn_told asked turns at =
    Accepts (ok_line asked.number ++ churn_line turns at.accepted at.refused) at.session

-- `churn X C`: C turns from the random number X, at most 10,000
abbrev pub churn_answer : Watched → Line → ℕ → ℕ → PlainSession → Answer
churn_answer W asked seed turns session =
    if nat_le turns 10000 then churn_told asked turns (churned W session seed turns)
    else Refuses (word_line asked 26 2)
