-- The laws of sessions, which public calls carry.
use Rattle.std.specs.Prelude.{◌≡◌, ℕ, List, Option, Some}
use Rattle.emh_base.specs.declared.edit.Change.{Change}
use Rattle.emh_io.specs.Files.{Files}
use Rattle.session_rules.specs.Session.{PlainSession}
use Rattle.session_rules.specs.Journal.{Leads, KeepsPlacements}
use Rattle.script_read.specs.Resolve.{resolution}
use Rattle.script_read.specs.declared.lines.Line.{Line}
use Rattle.emh_shell.specs.Answers.{Watched, Accepts}
use Rattle.emh_shell.specs.Edits.{EditAnswers}
use Rattle.emh_shell.specs.Churn.{Churned, after_one}
use Rattle.emh_shell.specs.Play.{Play}

-- over told files and with the same observers the words of a command line have at most one text, one set of files after it, and one status
abbrev pub EachSessionOnce : Type 0
EachSessionOnce =
    (W : Watched) (files : Files) (words : List (List ℕ)) (text other : List ℕ) (after another : Option Files) (status code : ℕ)
    → Play W (Some files) words text after status → Play W (Some files) words other another code
    → (text ≡ other) × (after ≡ another) × (status ≡ code)

-- The law of placements: where a line's edit is accepted, a journal of changes leads to the state after it, the user's
-- and those of the observers, and a block instance that survives them keeps its placement unless one of them sets it.
abbrev pub EachEditKeepsPlacements : Type 0
EachEditKeepsPlacements =
    (W : Watched) (line : Line) (before after : PlainSession) (text : List ℕ)
    → EditAnswers W line before (resolution before.now line.command) (Accepts text after)
    → (journal : List Change) × Leads before.now journal after.now
    × KeepsPlacements before.now journal after.now

-- So it is with each turn of drawn edits: one without an edit, or whose edit is refused, has an empty journal.
abbrev pub EachTurnKeepsPlacements : Type 0
EachTurnKeepsPlacements =
    (W : Watched) (at : Churned) (turn : ℕ)
    → (journal : List Change) × Leads at.session.now journal (after_one W at turn).session.now
    × KeepsPlacements at.session.now journal (after_one W at turn).session.now
