-- What a shelf gives for a name, what a file of it is as a table, and how a table is opened.
use Rattle.std.specs.Prelude.{◌≡◌, Bool, true, false, List, ℕ, Option, Some, None, option_map, Result, Ok, Err}
use Rattle.emh_base.specs.declared.plain.Plain.{Plain}
use Rattle.emh_base.specs.declared.state.State.{State}
use Rattle.emh_io.specs.Files.{Files, held}
use Rattle.emh_io.specs.Fetch.{fetched}
use Rattle.emh_io.specs.declared.shelf.FetchFault.{FetchFault}
use Rattle.emh_io.specs.declared.shelf.FetchFault.TheVariants as fetch
use Rattle.flatten_rules.specs.Design.{module_named}
use Rattle.vlog_elab.specs.Reads.{Reads, HasReadFault}
use Rattle.edit_rules.specs.declared.opening.OpenFault.{OpenFault}
use Rattle.edit_rules.specs.Opening.{open_fault, top_named}
use Rattle.desk.specs.Desk.{bare}
use Rattle.emh_shell.specs.declared.fault.FileFault.{FileFault}
use Rattle.emh_shell.specs.declared.fault.FileFault.TheVariants.{TooLong, Reading}
use Rattle.emh_shell.specs.declared.fault.DesignFault.{DesignFault}
use Rattle.emh_shell.specs.declared.fault.DesignFault.TheVariants.{File, Opening}

-- what is got from a shelf for a name; from a shelf that tells nothing it may be anything
abbrev pub Gives : Option Files → List ℕ → Result (List ℕ) FetchFault → Type 0
Gives None name answer = Unit {0}
Gives (Some files) name answer = fetched files name ≡ answer

-- the shelf tells that it hasn't that name
abbrev pub Lacks : Option Files → List ℕ → Type 0
Lacks None name = ⊥
Lacks (Some files) name = held files name ≡ None

-- a file as a table over a library, all of its modules leaves or those that are marked as cells; or what is wrong with it
abbrev pub HasTable : Option Files → Plain → Bool → List ℕ → Result Plain FileFault → Type 0
HasTable holds library all_leaf file (Ok plain) =
    (bytes : List ℕ) × Gives holds file (Ok bytes) × Reads library all_leaf bytes plain
HasTable holds library all_leaf file (Err TooLong) = Gives holds file (Err fetch.TooLong)
HasTable holds library all_leaf file (Err (Reading fault)) =
    (bytes : List ℕ) × Gives holds file (Ok bytes) × HasReadFault library all_leaf bytes fault

-- a table as a design with a module of a name at its top, on which nothing is placed or set; or why it isn't opened there
abbrev pub Opens : Plain → List ℕ → Result State OpenFault → Type 0
Opens plain top (Ok design) =
    (open_fault plain (module_named plain top) ≡ None)
    × (option_map (bare plain) (top_named plain top) ≡ Some design)
Opens plain top (Err fault) = open_fault plain (module_named plain top) ≡ Some fault

-- a file as a design with a module of a name at its top; or the first of what is wrong
abbrev pub HasDesign : Option Files → Plain → List ℕ → List ℕ → Result State DesignFault → Type 0
HasDesign holds library file top (Ok design) =
    (plain : Plain) × HasTable holds library false file (Ok plain) × Opens plain top (Ok design)
HasDesign holds library file top (Err (File fault)) = HasTable holds library false file (Err fault)
HasDesign holds library file top (Err (Opening fault)) =
    (plain : Plain) × HasTable holds library false file (Ok plain) × Opens plain top (Err fault)
