-- How a step of a run ends, by what a shelf and a sink told before it (a, x) and tell after it (b, y).
use Rattle.std.specs.Prelude.{◌≡◌, ℕ, ◌<◌, List, Result, Ok, Err}
use Rattle.emh_io.specs.Count.{Rose}
use Rattle.emh_io.specs.PutAll.{Front}
use Rattle.emh_io.specs.Put.{gains}
use Rattle.emh_io.specs.Told.{Shelved, Printed}
use Rattle.script_read.specs.declared.command.Command.{Command}
use Rattle.script_read.specs.declared.lines.Line.{Line}
use Rattle.emh_shell.specs.Progress.{Progress}
use Rattle.emh_shell.specs.Answers.{Watched}
use Rattle.emh_shell.specs.Steps.{Does, Fetches, Stores}
use Rattle.emh_shell.specs.Run.{QuietShelf, Unfetched, Unstored, WholeAtFetch, WholeAtStore, Cut, Played}
use Rattle.emh_shell.specs.declared.fault.Halt.{Halt}
use Rattle.emh_shell.specs.declared.fault.Halt.TheVariants.{Fetch, Store, Put, NoMemory}

-- a run of a command line's words
abbrev pub Ends : Watched → List (List ℕ) → Shelved → Shelved → Printed → Printed → Result ℕ Halt → Type 0
Ends W words a b x y (Ok status) =
    (status < 3) × Played W words a b x y status × QuietShelf a b × (y.faults ≡ x.faults)
Ends W words a b x y (Err Fetch) = WholeAtFetch W words a b x y
Ends W words a b x y (Err Store) = WholeAtStore W words a b x y
Ends W words a b x y (Err Put) = Cut W words a b x y × Rose x.faults y.faults
Ends W words a b x y (Err NoMemory) = Cut W words a b x y

-- the command of a line
abbrev pub CommandEnds : Watched → Command → Line → Shelved → Shelved → Progress → Progress
    → Result (List ℕ) Halt → Type 0
CommandEnds W command line a b s t (Ok said) =
    Does W command line a.holds s said b.holds t × QuietShelf a b
CommandEnds W command line a b s t (Err Fetch) =
    (name : List ℕ) × Fetches command s name × Unfetched a.holds a b name × (b.holds ≡ a.holds)
CommandEnds W command line a b s t (Err Store) =
    (name : List ℕ) × Stores command s name × Unstored a.holds a b name
CommandEnds W command line a b s t (Err Put) = ⊥
CommandEnds W command line a b s t (Err NoMemory) = b.holds ≡ a.holds

abbrev pub LineEnds : Watched → Line → Shelved → Shelved → Progress → Progress
    → Result (List ℕ) Halt → Type 0
LineEnds W line a b s t result = CommandEnds W line.command line a b s t result

-- a fetch of a file of that name, and what is then made of it, of which that holds
abbrev pub FetchEnds : {X : Type 0} → (X → Type 0) → List ℕ → Shelved → Shelved → Result X Halt → Type 0
FetchEnds Holds file a b (Ok reply) = Holds reply × QuietShelf a b × (b.holds ≡ a.holds)
FetchEnds Holds file a b (Err Fetch) = Unfetched a.holds a b file × (b.holds ≡ a.holds)
FetchEnds Holds file a b (Err Store) = ⊥
FetchEnds Holds file a b (Err Put) = ⊥
FetchEnds Holds file a b (Err NoMemory) = b.holds ≡ a.holds

-- the line that says why nothing is run is written whole, or its front
abbrev pub FaultEnds : List ℕ → Printed → Printed → Result ℕ Halt → Type 0
FaultEnds text x y (Ok status) =
    (status ≡ 2) × (y.written ≡ gains x.written text) × (y.faults ≡ x.faults)
FaultEnds text x y (Err Fetch) = ⊥
FaultEnds text x y (Err Store) = ⊥
FaultEnds text x y (Err Put) = Front text x y × Rose x.faults y.faults
FaultEnds text x y (Err NoMemory) = Front text x y
