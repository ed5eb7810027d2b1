-- The commands of netlists: what each prints, and what is so after it.
use Rattle.std.specs.Prelude.{◌≡◌, ◌⊎◌, true, ℕ, List, [], ◌++◌, Option, Some, None, Result, Ok, Err, codes}
use Rattle.std.specs.Option.{option_map}
use Rattle.emh_base.specs.declared.plain.Plain.{Plain}
use Rattle.emh_base.specs.declared.state.State.{State}
use Rattle.emh_io.specs.Files.{Files, stored}
use Rattle.flatten_rules.specs.FlatLines.{flat_lines}
use Rattle.session_rules.specs.Session.{PlainSession}
use Rattle.vlog_write.specs.Written.{written}
use Rattle.emh_shell.specs.Progress.{Progress, refusing, opening}
use Rattle.emh_shell.specs.Printing.{ok_line, refused_line}
use Rattle.emh_shell.specs.Answers.{no_design_line}
use Rattle.emh_shell.specs.Faults.{file_code, file_object, design_code, design_object}
use Rattle.emh_shell.specs.Fetching.{HasTable, HasDesign}
use Rattle.emh_shell.specs.declared.fault.FileFault.{FileFault}
use Rattle.emh_shell.specs.declared.fault.DesignFault.{DesignFault}

-- `load FILE TOP` begins a session on the file's design in place of the one that is open; where that is refused the open
-- one stays

abbrev pub load_text : ℕ → List ℕ → List ℕ → Result State DesignFault → List ℕ
load_text number file top (Ok design) = ok_line number
load_text number file top (Err fault) = refused_line number (design_code fault) (design_object file top fault)

abbrev pub after_load : Progress → Result State DesignFault → Progress
after_load s (Ok design) = opening s design
after_load s (Err fault) = refusing s

pub record Loads (number : ℕ) (file top : List ℕ) (holds : Option Files) (s : Progress) (said : List ℕ) (t : Progress) : Type 0 where
  pub reply : Result State DesignFault
  pub reads : HasDesign holds s.library file top reply
  pub prints : said ≡ load_text number file top reply
  pub leads : t ≡ after_load s reply

-- `cells FILE` adds the file's modules to the library, all of them as leaves

abbrev pub cells_text : ℕ → List ℕ → Result Plain FileFault → List ℕ
cells_text number file (Ok plain) = ok_line number
cells_text number file (Err fault) = refused_line number (file_code fault) (file_object file fault)

abbrev pub after_cells : Progress → Result Plain FileFault → Progress
after_cells s (Ok plain) = record s { library = plain }
after_cells s (Err fault) = refusing s

pub record AddsCells (number : ℕ) (file : List ℕ) (holds : Option Files) (s : Progress) (said : List ℕ) (t : Progress) : Type 0 where
  pub reply : Result Plain FileFault
  pub reads : HasTable holds s.library true file reply
  pub prints : said ≡ cells_text number file reply
  pub leads : t ≡ after_cells s reply

-- `write FILE` stores what is written of the open design's table

abbrev pub Writes : ℕ → List ℕ → List ℕ → Option Files → Progress → List ℕ → Option Files → Progress
    → Option PlainSession → Type 0
Writes number first file holds s said after t None =
    (said ≡ no_design_line number first) × (after ≡ holds) × (t ≡ refusing s)
Writes number first file holds s said after t (Some session) =
    (said ≡ ok_line number)
    × (after ≡ option_map (stored file (written session.now.plain)) holds) × (t ≡ s)

-- `compare FILE TOP` tells whether the file's design has the flat netlist of the open one

abbrev pub TellsWhether : Type 0 → List ℕ → Type 0
TellsWhether Same told =
    (Same × (told ≡ codes "same\n")) ⊎ ((Same → ⊥) × (told ≡ codes "differs\n"))

abbrev pub CompareSays : ℕ → List ℕ → List ℕ → State → Result State DesignFault → List ℕ → Type 0
CompareSays number file top design (Ok other) said =
    (told : List ℕ)
    × TellsWhether (flat_lines other.plain other.top ≡ flat_lines design.plain design.top) told
    × (said ≡ ok_line number ++ told)
CompareSays number file top design (Err fault) said =
    said ≡ refused_line number (design_code fault) (design_object file top fault)

abbrev pub after_compare : Progress → Result State DesignFault → Progress
after_compare s (Ok other) = s
after_compare s (Err fault) = refusing s

pub record ComparesWith (design : State) (number : ℕ) (file top : List ℕ) (holds : Option Files) (s : Progress) (said : List ℕ) (t : Progress) : Type 0 where
  pub reply : Result State DesignFault
  pub reads : HasDesign holds s.library file top reply
  pub prints : CompareSays number file top design reply said
  pub leads : t ≡ after_compare s reply

abbrev pub Compares : ℕ → List ℕ → List ℕ → List ℕ → Option Files → Progress → List ℕ → Progress
    → Option PlainSession → Type 0
Compares number first file top holds s said t None =
    (said ≡ no_design_line number first) × (t ≡ refusing s)
Compares number first file top holds s said t (Some session) =
    ComparesWith session.now number file top holds s said t
