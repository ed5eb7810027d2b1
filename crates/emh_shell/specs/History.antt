-- The lines of history.
use Rattle.std.specs.Prelude.{◌≡◌, ℕ, List, []}
use Rattle.session_rules.specs.Session.{PlainSession, Undoes, Redoes}
use Rattle.emh_shell.specs.Printing.{ok_line, refused_line, word_object}
use Rattle.emh_shell.specs.Answers.{Answer, Refuses, Accepts}

-- `undo` goes back to the state before the last command
abbrev pub UndoAnswers : ℕ → List ℕ → PlainSession → Answer → Type 0
UndoAnswers number first session (Refuses text) =
    (session.past ≡ []) × (text ≡ refused_line number 34 (word_object first))
UndoAnswers number first session (Accepts text next) = Undoes session next × (text ≡ ok_line number)

-- `redo` goes forth to the state that was gone back from last
abbrev pub RedoAnswers : ℕ → List ℕ → PlainSession → Answer → Type 0
RedoAnswers number first session (Refuses text) =
    (session.future ≡ []) × (text ≡ refused_line number 35 (word_object first))
RedoAnswers number first session (Accepts text next) = Redoes session next × (text ≡ ok_line number)
