-- One line of the plain session: from files and a progress to what it prints, and to the files and the progress after it.
use Rattle.std.specs.Prelude.{◌≡◌, ℕ, List, Bool, true, false, Option, Some, None, IsSome}
use Rattle.emh_io.specs.Files.{Files}
use Rattle.session_rules.specs.Session.{PlainSession}
use Rattle.script_read.specs.Resolve.{resolution}
use Rattle.script_read.specs.declared.command.Command.{Command}
use Rattle.script_read.specs.declared.command.Command.TheVariants.{Load, Cells, Write, Compare, Generate, Churn, Undo, Redo, Observe, Ignore, Report}
use Rattle.script_read.specs.declared.lines.Line.{Line}
use Rattle.emh_shell.specs.Progress.{Progress}
use Rattle.emh_shell.specs.Answers.{Watched, Answer, Answered}
use Rattle.emh_shell.specs.Objects.{word_at}
use Rattle.emh_shell.specs.Netlists.{Loads, AddsCells, Writes, Compares}
use Rattle.emh_shell.specs.Made.{Generates}
use Rattle.emh_shell.specs.Edits.{EditAnswers}
use Rattle.emh_shell.specs.History.{UndoAnswers, RedoAnswers}
use Rattle.emh_shell.specs.Observers.{mark_answer}
use Rattle.emh_shell.specs.Churn.{churn_answer}
use Rattle.emh_shell.specs.Reports.{session_report, ReportAnswers}

-- the first word of a line
abbrev pub first_word : Line → List ℕ
first_word line = word_at line 0

-- the commands that are about the open session, and neither read nor store a netlist
abbrev pub asks_session : Command → Bool
asks_session (Load file top) = false
asks_session (Cells file) = false
asks_session (Write file) = false
asks_session (Compare file top) = false
asks_session (Generate seed modules width) = false
asks_session _ = true

-- what a command that is about the open session answers there
abbrev pub SessionAnswers : Watched → Command → Line → PlainSession → Answer → Type 0
SessionAnswers W Undo line session answer = UndoAnswers line.number (first_word line) session answer
SessionAnswers W Redo line session answer = RedoAnswers line.number (first_word line) session answer
SessionAnswers W (Observe name) line session answer = answer ≡ mark_answer W line name true session
SessionAnswers W (Ignore name) line session answer = answer ≡ mark_answer W line name false session
SessionAnswers W (Report kind) line session answer =
    ReportAnswers line session (session_report W session kind) answer
SessionAnswers W (Churn seed turns) line session answer = answer ≡ churn_answer W line seed turns session
SessionAnswers W command line session answer = EditAnswers W line session (resolution session.now command) answer

-- what the command of a line does
abbrev pub Does : Watched → Command → Line → Option Files → Progress → List ℕ → Option Files → Progress → Type 0
Does W (Load file top) line files s said after t =
    Loads line.number file top files s said t × (after ≡ files)
Does W (Cells file) line files s said after t =
    AddsCells line.number file files s said t × (after ≡ files)
Does W (Write file) line files s said after t =
    Writes line.number (first_word line) file files s said after t s.session
Does W (Compare file top) line files s said after t =
    Compares line.number (first_word line) file top files s said t s.session × (after ≡ files)
Does W (Generate seed modules width) line files s said after t =
    Generates line seed modules width s said t × (after ≡ files)
Does W command line files s said after t =
    Answered line.number (first_word line) (SessionAnswers W command line) s said t × (after ≡ files)

abbrev pub Steps : Watched → Line → Option Files → Progress → List ℕ → Option Files → Progress → Type 0
Steps W line files s said after t = Does W line.command line files s said after t

-- the name of the file that a command fetches
abbrev pub Fetches : Command → Progress → List ℕ → Type 0
Fetches (Load file top) s name = name ≡ file
Fetches (Cells file) s name = name ≡ file
Fetches (Compare file top) s name = IsSome s.session × (name ≡ file)
Fetches _ s name = ⊥

-- the name of the file that a command stores
abbrev pub Stores : Command → Progress → List ℕ → Type 0
Stores (Write file) s name = IsSome s.session × (name ≡ file)
Stores _ s name = ⊥
