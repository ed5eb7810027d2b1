-- The lines of reports.
use Rattle.std.specs.Prelude.{◌≡◌, ℕ, Bool, List, [], ◌∷◌, ◌++◌, zip, length, Option, Some, None, Ok, Err, codes, if◌then◌else◌}
use Rattle.std.specs.List.{flat_map}
use Rattle.emh_base.specs.Text.{spell}
use Rattle.emh_base.specs.declared.report.Kind.{Kind}
use Rattle.emh_base.specs.declared.report.Kind.TheVariants.{Log}
use Rattle.session_rules.specs.Session.{PlainSession}
use Rattle.script_read.specs.Resolve.{Looked}
use Rattle.script_read.specs.declared.lines.Line.{Line}
use Rattle.reports.specs.Line.{line}
use Rattle.reports.specs.Counts.{count_line}
use Rattle.reports.specs.Report.{report_of}
use Rattle.emh_shell.specs.Printing.{ok_line}
use Rattle.emh_shell.specs.Answers.{Watched, Answer, Refuses, Accepts}
use Rattle.emh_shell.specs.Objects.{rule_line}

abbrev pub mark_word : Bool → List ℕ
mark_word enabled = if enabled then codes "on" else codes "off"

-- `observer NAME on`, or off
abbrev pub observer_line : List ℕ × Bool → List ℕ
observer_line marked =
    line (codes "observer" ∷ spell marked.0 ∷ mark_word marked.1 ∷ [])

abbrev pub observer_lines : List (List ℕ) → List Bool → List ℕ
observer_lines names marks = flat_map observer_line (zip names marks)

-- The report of the log: how many states there are to go back to and forth to, and which observers are enabled.
abbrev pub log_text : List (List ℕ) → PlainSession → List ℕ
log_text names session =
    count_line (codes "past") (length session.past)
    ++ (count_line (codes "future") (length session.future) ++ observer_lines names session.enabled)

-- the log is the session's, each other report the design's
abbrev pub session_report : Watched → PlainSession → Kind → Option (Looked (List ℕ))
session_report W session Log = Some (Ok (log_text W.names session))
session_report W session kind = report_of session.now kind

-- `report`: the report behind the line; it changes nothing
abbrev pub reported : Line → PlainSession → Looked (List ℕ) → Answer
reported asked session (Ok text) = Accepts (ok_line asked.number ++ text) session
reported asked session (Err refusal) = Refuses (rule_line session.now.plain asked refusal)

abbrev pub ReportAnswers : Line → PlainSession → Option (Looked (List ℕ)) → Answer → Type 0
ReportAnswers asked session None answer = ⊥
ReportAnswers asked session (Some looked) answer = answer ≡ reported asked session looked
