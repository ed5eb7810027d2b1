-- The line `generate`, which opens a made design.
use Rattle.std.specs.Prelude.{◌≡◌, ℕ, ◌&&◌, nat_le, List, [], Option, Some, None, Result, Ok, Err, if◌then◌else◌}
use Rattle.emh_base.specs.declared.state.State.{State}
use Rattle.edit_rules.specs.declared.opening.OpenFault.{OpenFault}
use Rattle.edit_rules.specs.Opening.{open_code}
use Rattle.gen_design.specs.Made.{made, top_name}
use Rattle.script_read.specs.declared.lines.Line.{Line}
use Rattle.emh_shell.specs.Progress.{Progress, refusing, opening}
use Rattle.emh_shell.specs.Printing.{ok_line, refused_line, module_object}
use Rattle.emh_shell.specs.Objects.{word_line}
use Rattle.emh_shell.specs.Fetching.{Opens}

-- A made design has 1 to 10,000 modules, whose buses have 1 to 64 bits. The place in the line of the first number that is
-- out of its range.
abbrev pub out_of_range : ℕ → ℕ → Option ℕ
out_of_range modules width =
    if nat_le 1 modules && nat_le modules 10000
    then (if nat_le 1 width && nat_le width 64 then None else Some 3)
    else Some 2

abbrev pub made_text : ℕ → List ℕ → Result State OpenFault → List ℕ
made_text number top (Ok design) = ok_line number
made_text number top (Err fault) = refused_line number (open_code fault) (module_object top)

abbrev pub after_made : Progress → Result State OpenFault → Progress
after_made s (Ok design) = opening s design
after_made s (Err fault) = refusing s

-- the made table alone is opened at its last module, in place of the design that is open; where that is refused the open one
-- stays
pub record OpensMade (number seed modules width : ℕ) (s : Progress) (said : List ℕ) (t : Progress) : Type 0 where
  pub reply : Result State OpenFault
  pub opens : Opens (made seed modules width) (top_name modules) reply
  pub prints : said ≡ made_text number (top_name modules) reply
  pub leads : t ≡ after_made s reply

abbrev pub GeneratesIn : Line → ℕ → ℕ → ℕ → Progress → List ℕ → Progress → Option ℕ → Type 0
GeneratesIn line seed modules width s said t None = OpensMade line.number seed modules width s said t
GeneratesIn line seed modules width s said t (Some place) = (said ≡ word_line line 26 place) × (t ≡ refusing s)

-- `generate X N W`: the design of N modules of W bits that is made from X
abbrev pub Generates : Line → ℕ → ℕ → ℕ → Progress → List ℕ → Progress → Type 0
Generates line seed modules width s said t =
    GeneratesIn line seed modules width s said t (out_of_range modules width)
