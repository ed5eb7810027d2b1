-- How a run ends, by what a shelf and a sink told before it (a, x) and tell after it (b, y).
use Rattle.std.specs.Prelude.{◌≡◌, ℕ, ◌<◌, List, [], ◌++◌, Option, Some, Result, Ok, Err, ◌⊎◌}
use Rattle.std.specs.Option.{option_map}
use Rattle.emh_io.specs.Count.{Rose}
use Rattle.emh_io.specs.Files.{Files, without}
use Rattle.emh_io.specs.Put.{gains}
use Rattle.emh_io.specs.Told.{Shelved, Printed}
use Rattle.script_read.specs.declared.lines.Line.{Line}
use Rattle.emh_shell.specs.Answers.{Watched}
use Rattle.emh_shell.specs.Fetching.{Lacks}
use Rattle.emh_shell.specs.Steps.{Stores}
use Rattle.emh_shell.specs.Play.{Play, Point, Stands, NextFetch, NextLine, Faulty}

-- no call on the shelf failed
abbrev pub QuietShelf : Shelved → Shelved → Type 0
QuietShelf a b = (b.fetch_faults ≡ a.fetch_faults) × (b.store_faults ≡ a.store_faults)

-- some call failed in this run
abbrev pub Failed : Shelved → Shelved → Printed → Printed → Type 0
Failed a b x y =
    Rose a.fetch_faults b.fetch_faults ⊎ Rose a.store_faults b.store_faults
    ⊎ Rose x.faults y.faults

-- a fetch of that name came to nothing: the shelf tells that it hasn't it, or it failed at it in this run
abbrev pub Unfetched : Option Files → Shelved → Shelved → List ℕ → Type 0
Unfetched files a b name =
    Lacks files name ⊎ (Rose a.fetch_faults b.fetch_faults × (b.failed ≡ Some name))

-- a store of that name failed in this run: of all other names the shelf holds these files
abbrev pub Unstored : Option Files → Shelved → Shelved → List ℕ → Type 0
Unstored files a b name =
    (option_map (without name) b.holds ≡ option_map (without name) files)
    × Rose a.store_faults b.store_faults × (b.failed ≡ Some name)

-- The whole form: the shelf holds the files after the first k lines, and the sink has written their whole text. What
-- comes next is a fetch of that name, which came to nothing.
pub record WholeAtFetch (W : Watched) (words : List (List ℕ)) (a b : Shelved) (x y : Printed) : Type 0 where
  pub k : ℕ
  pub at : Point
  pub name : List ℕ
  pub next : NextFetch W a.holds words k at name
  pub cause : Unfetched at.files a b name
  pub files : b.holds ≡ at.files
  pub text : y.written ≡ gains x.written at.text

-- The whole form, where line k + 1 stores a file of that name, and that failed.
pub record WholeAtStore (W : Watched) (words : List (List ℕ)) (a b : Shelved) (x y : Printed) : Type 0 where
  pub k : ℕ
  pub at : Point
  pub name : List ℕ
  pub next : NextLine Stores W a.holds words k at name
  pub cause : Unstored at.files a b name
  pub text : y.written ≡ gains x.written at.text

-- After its first k lines the plain session has this text and these files. Where nothing is run the one line that it
-- prints stands for the text.
abbrev pub After : Watched → Option Files → List (List ℕ) → ℕ → List ℕ → Option Files → Type 0
After W files words k text after =
    ((k ≡ 0) × ((text ≡ []) ⊎ Faulty files words text) × (after ≡ files))
    ⊎ ((lines : List Line) × (p : Point) × Stands W files words lines k p × (text ≡ p.text)
    × (after ≡ p.files))

-- The cut form: the shelf holds the files after the first k lines, and the sink has written the front of their text.
pub record Cut (W : Watched) (words : List (List ℕ)) (a b : Shelved) (x y : Printed) : Type 0 where
  pub k : ℕ
  pub front : List ℕ
  pub rest : List ℕ
  pub after : After W a.holds words k (front ++ rest) b.holds
  pub text : y.written ≡ gains x.written front

-- the plain session's text is written, and the shelf holds its files
pub record Played (W : Watched) (words : List (List ℕ)) (a b : Shelved) (x y : Printed) (status : ℕ) : Type 0 where
  pub text : List ℕ
  pub plays : Play W a.holds words text b.holds status
  pub written : y.written ≡ gains x.written text
