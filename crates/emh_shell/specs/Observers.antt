-- The lines of observers.
use Rattle.std.specs.Prelude.{Bool, ℕ, List, if◌then◌else◌}
use Rattle.session_rules.specs.Session.{PlainSession, has_name, mark}
use Rattle.script_read.specs.declared.lines.Line.{Line}
use Rattle.emh_shell.specs.Printing.{ok_line}
use Rattle.emh_shell.specs.Answers.{Watched, Answer, Refuses, Accepts}
use Rattle.emh_shell.specs.Objects.{word_line}

-- `observe NAME` enables all observers of that name, `ignore NAME` none of them; there has to be one
abbrev pub mark_answer : Watched → Line → List ℕ → Bool → PlainSession → Answer
mark_answer W line name on session =
    if has_name name W.names then Accepts (ok_line line.number) (mark name on W.names session)
    else Refuses (word_line line 36 1)
