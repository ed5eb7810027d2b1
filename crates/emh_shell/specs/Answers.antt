-- What a line answers that is about the open session.
use Rattle.std.specs.Prelude.{◌≡◌, ℕ, List, [], map, Option, Some, None}
use Rattle.session_rules.specs.Take.{Wants}
use Rattle.session_rules.specs.Session.{PlainSession}
use Rattle.emh_shell.specs.Progress.{Progress, refusing, going_on}
use Rattle.emh_shell.specs.Printing.{refused_line, word_object}

-- the observers that are handed in, by their names and by what they want
pub record Watched : Type 0 where
  pub names : List (List ℕ)
  pub wants : List Wants

abbrev pub watched : {X : Type 0} → (X → List ℕ) → (X → Wants) → List X → Watched
watched name wants observers = record { names = map name observers; wants = map wants observers }

-- there are none
abbrev pub nobody : Watched
nobody = record { names = []; wants = [] }

-- a text with which the line is refused, or one with which it is accepted and the session after it
pub data Answer : Type 0 where
  Refuses : List ℕ → Answer
  Accepts : List ℕ → PlainSession → Answer

abbrev pub text_of : Answer → List ℕ
text_of (Refuses text) = text
text_of (Accepts text session) = text

abbrev pub after : Progress → Answer → Progress
after s (Refuses text) = refusing s
after s (Accepts text session) = going_on s session

-- a line that needs a design, where none is open, is refused by its first word
abbrev pub no_design_line : ℕ → List ℕ → List ℕ
no_design_line number first = refused_line number 27 (word_object first)

abbrev pub InSession : ℕ → List ℕ → (PlainSession → Answer → Type 0) → Option PlainSession → Answer → Type 0
InSession number first Has None answer = answer ≡ Refuses (no_design_line number first)
InSession number first Has (Some session) answer = Has session answer

-- what it prints, and what is so after it
pub record Answered
    (number : ℕ) (first : List ℕ) (Has : PlainSession → Answer → Type 0) (s : Progress) (said : List ℕ) (t : Progress)
    : Type 0 where
  pub answer : Answer
  pub has : InSession number first Has s.session answer
  pub prints : said ≡ text_of answer
  pub leads : t ≡ after s answer
