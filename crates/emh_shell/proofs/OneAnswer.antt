-- A line that is about the open session has one answer there.
use Rattle.std.proofs.Common.{◌≡◌, ℕ, List, [], ◌∷◌, ◌++◌, Option, Some, None, refl, sym, ap, ◌∙◌}
use Rattle.std.specs.Prelude.{Ok, Err}
use Rattle.emh_base.specs.declared.edit.Edit.{Edit}
use Rattle.emh_base.specs.declared.state.State.{State}
use Rattle.session_rules.specs.Session.{PlainSession, Undoes, Redoes}
use Rattle.script_read.specs.Resolve.{Looked, resolution}
use Rattle.script_read.specs.declared.command.Command.{Command}
use Rattle.script_read.specs.declared.command.Command.TheVariants.{Undo, Redo, Observe, Ignore, Report, Churn}
use Rattle.script_read.specs.declared.lines.Line.{Line}
use Rattle.emh_shell.specs.Progress.{Progress}
use Rattle.emh_shell.specs.Answers.{Watched, Answer, Refuses, Accepts, InSession, Answered, text_of, after}
use Rattle.emh_shell.specs.Edits.{EditAnswers}
use Rattle.emh_shell.specs.History.{UndoAnswers, RedoAnswers}
use Rattle.emh_shell.specs.Reports.{ReportAnswers, session_report}
use Rattle.emh_shell.specs.Steps.{SessionAnswers, first_word}

-- two texts and two progresses are the same
abbrev pub Same : List ℕ → List ℕ → Progress → Progress → Type 0
Same said other t u = (said ≡ other) × (t ≡ u)

-- there is one answer in each session
abbrev pub OneAnswer : (PlainSession → Answer → Type 0) → Type 0
OneAnswer Has = (session : PlainSession) (a b : Answer) → Has session a → Has session b → a ≡ b

one_in : (number : ℕ) (first : List ℕ) (Has : PlainSession → Answer → Type 0) → OneAnswer Has → (there : Option PlainSession) (a b : Answer) → InSession number first Has there a → InSession number first Has there b → a ≡ b
one_in number first Has one None a b x y = x ∙ sym y
one_in number first Has one (Some session) a b x y = one session a b x y

pub one_answered : (number : ℕ) (first : List ℕ) (Has : PlainSession → Answer → Type 0) → OneAnswer Has → (s : Progress) (said other : List ℕ) (t u : Progress) → Answered number first Has s said t → Answered number first Has s other u → Same said other t u
one_answered number first Has one s said other t u x y =
    let same = one_in number first Has one s.session x.answer y.answer x.has y.has in
    (x.prints ∙ ap text_of same ∙ sym y.prints, x.leads ∙ ap (after s) same ∙ sym y.leads)

-- a list with something at its end isn't empty, and has one item there and one front

no_last : {X : Type 0} (xs : List X) (x : X) → [] ≡ xs ++ x ∷ [] → ⊥
no_last [] x e = let never : [] ≡ x ∷ [] = e in cc
no_last (y ∷ ys) x e = let never : [] ≡ y ∷ (ys ++ x ∷ []) = e in cc

one_last : {X : Type 0} (xs ys : List X) (x y : X) → xs ++ x ∷ [] ≡ ys ++ y ∷ [] → (xs ≡ ys) × (x ≡ y)
one_last [] [] x y e = (refl, cc)
one_last [] (q ∷ qs) x y e =
    let tails : [] ≡ qs ++ y ∷ [] = (let whole : x ∷ [] ≡ q ∷ (qs ++ y ∷ []) = e in cc) in
    absurd (no_last qs y tails)
one_last (p ∷ ps) [] x y e =
    let tails : [] ≡ ps ++ x ∷ [] = (let whole : y ∷ [] ≡ p ∷ (ps ++ x ∷ []) = sym e in cc) in
    absurd (no_last ps x tails)
one_last (p ∷ ps) (q ∷ qs) x y e =
    let whole : p ∷ (ps ++ x ∷ []) ≡ q ∷ (qs ++ y ∷ []) = e in
    let heads : p ≡ q = cc in
    let tails : ps ++ x ∷ [] ≡ qs ++ y ∷ [] = cc in
    let rest = one_last ps qs x y tails in
    (rw (heads, rest.0) refl, rest.1)

one_before : (old new other : PlainSession) → Undoes old new → Undoes old other → new ≡ other
one_before old new other x y =
    let parts = one_last new.past other.past new.now other.now (sym x.past ∙ y.past) in
    x.same
    ∙ (let e : (let w : PlainSession = record old { past = new.past; now = new.now; future = old.future ++ old.now ∷ [] } in w) ≡ (let w : PlainSession = record old { past = other.past; now = other.now; future = old.future ++ old.now ∷ [] } in w) = rw (parts.0, parts.1) refl in e)
    ∙ sym y.same

one_after : (old new other : PlainSession) → Redoes old new → Redoes old other → new ≡ other
one_after old new other x y =
    let parts = one_last new.future other.future new.now other.now (sym x.future ∙ y.future) in
    x.same
    ∙ (let e : (let w : PlainSession = record old { past = old.past ++ old.now ∷ []; now = new.now; future = new.future } in w) ≡ (let w : PlainSession = record old { past = old.past ++ old.now ∷ []; now = other.now; future = other.future } in w) = rw (parts.0, parts.1) refl in e)
    ∙ sym y.same

accepted_same : (text other : List ℕ) (session next : PlainSession) → text ≡ other → session ≡ next → Accepts text session ≡ Accepts other next
accepted_same text other session next texts sessions = rw (texts, sessions) refl

one_undo : (number : ℕ) (first : List ℕ) → OneAnswer (UndoAnswers number first)
one_undo number first session (Refuses text) (Refuses other) x y = ap Refuses (x.1 ∙ sym y.1)
one_undo number first session (Refuses text) (Accepts other next) x y = absurd (no_last next.past next.now (sym x.0 ∙ y.0.past))
one_undo number first session (Accepts text next) (Refuses other) x y = absurd (no_last next.past next.now (sym y.0 ∙ x.0.past))
one_undo number first session (Accepts text next) (Accepts other before) x y =
    accepted_same text other next before (x.1 ∙ sym y.1) (one_before session next before x.0 y.0)

one_redo : (number : ℕ) (first : List ℕ) → OneAnswer (RedoAnswers number first)
one_redo number first session (Refuses text) (Refuses other) x y = ap Refuses (x.1 ∙ sym y.1)
one_redo number first session (Refuses text) (Accepts other next) x y = absurd (no_last next.future next.now (sym x.0 ∙ y.0.future))
one_redo number first session (Accepts text next) (Refuses other) x y = absurd (no_last next.future next.now (sym y.0 ∙ x.0.future))
one_redo number first session (Accepts text next) (Accepts other before) x y =
    accepted_same text other next before (x.1 ∙ sym y.1) (one_after session next before x.0 y.0)

one_report : (line : Line) (session : PlainSession) (report : Option (Looked (List ℕ))) (a b : Answer) → ReportAnswers line session report a → ReportAnswers line session report b → a ≡ b
one_report line session None a b x y = absurd x
one_report line session (Some looked) a b x y = x ∙ sym y

one_edit : (W : Watched) (line : Line) (session : PlainSession) (edit : Option (Looked Edit)) (a b : Answer) → EditAnswers W line session edit a → EditAnswers W line session edit b → a ≡ b
one_edit W line session None a b x y = absurd x
one_edit W line session (Some looked) a b x y = x ∙ sym y

pub one_session : (W : Watched) (command : Command) (line : Line) → OneAnswer (SessionAnswers W command line)
one_session W Undo line session a b x y = one_undo line.number (first_word line) session a b x y
one_session W Redo line session a b x y = one_redo line.number (first_word line) session a b x y
one_session W (Observe name) line session a b x y = x ∙ sym y
one_session W (Ignore name) line session a b x y = x ∙ sym y
one_session W (Churn seed turns) line session a b x y = x ∙ sym y
one_session W (Report kind) line session a b x y = one_report line session (session_report W session kind) a b x y
one_session W command line session a b x y = one_edit W line session (resolution session.now command) a b x y
