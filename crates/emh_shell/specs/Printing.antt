-- What a line of a script prints first: that it is done, or why it is refused. This project's own.
use Rattle.std.specs.Prelude.{ℕ, List, [], ◌++◌, codes}
use Rattle.std.specs.Fmt.{decimal}
use Rattle.emh_base.specs.Text.{spell}
use Rattle.word_table.specs.Causes.{cause_name}
use Rattle.script_read.specs.declared.lines.ScriptFault.{ScriptFault}
use Rattle.script_read.specs.declared.lines.ScriptFault.TheVariants.{TooManyLines, BadLine, NoMemory}

-- `ok LINE`
abbrev pub ok_line : ℕ → List ℕ
ok_line number = codes "ok " ++ (decimal number ++ codes "\n")

-- `ok LINE K`, for an accepted edit, to which observers added so many
abbrev pub edit_line : ℕ → ℕ → List ℕ
edit_line number added = codes "ok " ++ (decimal number ++ (codes " " ++ (decimal added ++ codes "\n")))

-- `refused LINE CODE NAME OBJECT`: a cause by its code and its name, and what it is about
abbrev pub refused_line : ℕ → ℕ → List ℕ → List ℕ
refused_line number code object =
    codes "refused " ++ (decimal number ++ (codes " " ++ (decimal code ++ (codes " "
    ++ (cause_name code ++ (codes " " ++ (object ++ codes "\n")))))))

-- the objects

abbrev pub word_object : List ℕ → List ℕ
word_object word = codes "word " ++ word

abbrev pub module_object : List ℕ → List ℕ
module_object name = codes "module " ++ spell name

abbrev pub number_object : ℕ → List ℕ
number_object number = codes "number " ++ decimal number

-- a place of a file, by its byte counted from 0
abbrev pub place_object : ℕ → List ℕ
place_object at = codes "at " ++ decimal at

-- a place of a file, and what stands there
abbrev pub text_object : ℕ → List ℕ → List ℕ
text_object at text = place_object at ++ (codes " " ++ text)

-- lines that run nothing

abbrev pub usage_line : List ℕ
usage_line = codes "usage emhdb [--budget N] SCRIPT\n"

abbrev pub too_long_line : List ℕ
too_long_line = codes "script too long\n"

-- want of memory is never told
abbrev pub fault_line : ScriptFault → List ℕ
fault_line TooManyLines = codes "script has too many lines\n"
fault_line (BadLine line) = codes "bad line " ++ (decimal line ++ codes "\n")
fault_line NoMemory = []
