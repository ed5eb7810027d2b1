-- The plain session of a script over files.
use Rattle.std.specs.Prelude.{◌≡◌, ℕ, ◌≤◌, List, [], ◌∷◌, ◌++◌, length, take, slice_get, Option, Some, None, Result, Ok, Err, ◌⊎◌, if◌then◌else◌}
use Rattle.emh_io.specs.Files.{Files}
use Rattle.emh_io.specs.declared.shelf.FetchFault.TheVariants.{TooLong}
use Rattle.script_read.specs.declared.command.Command.{Command}
use Rattle.script_read.specs.declared.lines.Line.{Line}
use Rattle.script_read.specs.declared.lines.ScriptFault.{ScriptFault}
use Rattle.script_read.specs.Script.{script_of}
use Rattle.emh_shell.specs.Printing.{usage_line, too_long_line, fault_line}
use Rattle.command_line.specs.CommandLine.{asked}
use Rattle.command_line.specs.declared.words.Asked.{Asked}
use Rattle.emh_shell.specs.Answers.{Watched}
use Rattle.emh_shell.specs.Progress.{Progress, at_first}
use Rattle.emh_shell.specs.Fetching.{Gives, Lacks}
use Rattle.emh_shell.specs.Steps.{Steps, Fetches}

-- a point of the session: the text so far, the files, where they are told, and where the script stands
pub record Point : Type 0 where
  pub text : List ℕ
  pub files : Option Files
  pub progress : Progress

-- before the first line, under that budget and with these observers
abbrev pub start : Watched → ℕ → Option Files → Point
start W budget files = record { text = []; files = files; progress = at_first budget (length W.names) }

-- a line leads from one point to another
pub record Goes (W : Watched) (p : Point) (line : Line) (q : Point) : Type 0 where
  pub said : List ℕ
  pub steps : Steps W line p.files p.progress said q.files q.progress
  pub text : q.text ≡ p.text ++ said

-- lines lead from one point to another
abbrev pub Leads : Watched → Point → List Line → Point → Type 0
Leads W p [] q = q ≡ p
Leads W p (line ∷ lines) q = (mid : Point) × Goes W p line mid × Leads W mid lines q

-- a script is asked for that the shelf gives, and these are its lines
pub record Reads (files : Option Files) (words : List (List ℕ)) (lines : List Line) : Type 0 where
  pub ask : Asked
  pub bytes : List ℕ
  pub asks : asked words ≡ Some ask
  pub gives : Gives files ask.script (Ok bytes)
  pub read : script_of bytes ≡ Ok lines

-- the first k lines of the script lead to that point
pub record Stands
    (W : Watched) (files : Option Files) (words : List (List ℕ)) (lines : List Line) (k : ℕ) (p : Point)
    : Type 0 where
  pub reads : Reads files words lines
  pub within : k ≤ length lines
  pub leads : Leads W (start W reads.ask.budget files) (take k lines) p

-- the line after the first k ones, which lead to that point, does this with that name
pub record NextLine
    (Uses : Command → Progress → List ℕ → Type 0)
    (W : Watched) (files : Option Files) (words : List (List ℕ)) (k : ℕ) (p : Point) (name : List ℕ)
    : Type 0 where
  pub lines : List Line
  pub stands : Stands W files words lines k p
  pub line : Line
  pub here : slice_get lines k ≡ Some line
  pub uses : Uses line.command p.progress name

-- the script of that name is asked for, and nothing was run yet
pub record Begins
    (W : Watched) (files : Option Files) (words : List (List ℕ)) (k : ℕ) (p : Point) (name : List ℕ) : Type 0 where
  pub ask : Asked
  pub asks : asked words ≡ Some ask
  pub named : name ≡ ask.script
  pub first : k ≡ 0
  pub at : p ≡ start W ask.budget files

-- after the first k lines, which lead to that point, a file of that name is fetched: the script or that of line k + 1
abbrev pub NextFetch : Watched → Option Files → List (List ℕ) → ℕ → Point → List ℕ → Type 0
NextFetch W files words k p name =
    Begins W files words k p name ⊎ NextLine Fetches W files words k p name

-- the script can be fetched, and its bytes are no script
pub record HasFault (files : Option Files) (name text : List ℕ) : Type 0 where
  pub bytes : List ℕ
  pub gives : Gives files name (Ok bytes)
  pub fault : ScriptFault
  pub read : script_of bytes ≡ Err fault
  pub told : text ≡ fault_line fault

-- why nothing is run, as the one line that is printed says it
abbrev pub FaultyAsk : Option Files → Option Asked → List ℕ → Type 0
FaultyAsk files None text = text ≡ usage_line
FaultyAsk files (Some ask) text =
    (Gives files ask.script (Err TooLong) × (text ≡ too_long_line)) ⊎ HasFault files ask.script text

abbrev pub Faulty : Option Files → List (List ℕ) → List ℕ → Type 0
Faulty files words text = FaultyAsk files (asked words) text

-- the script is played to its end
pub record PlaysOut (W : Watched) (files : Option Files) (words : List (List ℕ)) (p : Point) : Type 0 where
  pub lines : List Line
  pub reads : Reads files words lines
  pub leads : Leads W (start W reads.ask.budget files) lines p

-- a file that is fetched isn't held
pub record PlaysUp (W : Watched) (files : Option Files) (words : List (List ℕ)) (p : Point) : Type 0 where
  pub k : ℕ
  pub name : List ℕ
  pub fetch : NextFetch W files words k p name
  pub lacks : Lacks p.files name

-- The plain session of a command line's words over files, with these observers: its text, the files after it and its
-- status.
abbrev pub Play : Watched → Option Files → List (List ℕ) → List ℕ → Option Files → ℕ → Type 0
Play W files words text after status =
    ((status ≡ 2) × Faulty files words text × (after ≡ files))
    ⊎ ((p : Point) × PlaysOut W files words p × (text ≡ p.text) × (after ≡ p.files)
    × (status ≡ (if p.progress.has_refused then 1 else 0)))
    ⊎ ((p : Point) × PlaysUp W files words p × (text ≡ p.text) × (after ≡ p.files) × (status ≡ 3))
