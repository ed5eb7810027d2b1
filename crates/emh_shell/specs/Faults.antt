-- Why a line that reads a netlist is refused: the cause's code, and what it is about.
use Rattle.std.specs.Prelude.{ℕ, List, []}
use Rattle.emh_base.specs.Text.{spell}
use Rattle.vlog_lex.specs.Code.{lex_code}
use Rattle.vlog_lex.specs.declared.token.LexFault.{LexFault}
use Rattle.vlog_lex.specs.declared.token.LexFault.TheVariants.{BadByte, OpenComment, OpenAttribute, BadLiteral, LongName, Directive}
use Rattle.vlog_lex.specs.declared.token.LexFault.TheVariants as lex
use Rattle.vlog_read.specs.Code.{parse_code}
use Rattle.vlog_read.specs.declared.fault.ParseFault.{ParseFault}
use Rattle.vlog_read.specs.declared.fault.ParseFault.TheVariants.{Unexpected, Unsupported}
use Rattle.vlog_read.specs.declared.fault.ParseFault.TheVariants as parse
use Rattle.vlog_elab.specs.Code.{elab_code}
use Rattle.vlog_elab.specs.declared.fault.ElabFault.{ElabFault}
use Rattle.vlog_elab.specs.declared.fault.ElabFault.TheVariants.{Fault}
use Rattle.vlog_elab.specs.declared.fault.ElabFault.TheVariants as elab
use Rattle.vlog_elab.specs.declared.reads.ReadFault.{ReadFault}
use Rattle.vlog_elab.specs.declared.reads.ReadFault.TheVariants.{Lex, Parse, Elab}
use Rattle.edit_rules.specs.Opening.{open_code}
use Rattle.emh_shell.specs.declared.fault.FileFault.{FileFault}
use Rattle.emh_shell.specs.declared.fault.FileFault.TheVariants.{TooLong, Reading}
use Rattle.emh_shell.specs.declared.fault.DesignFault.{DesignFault}
use Rattle.emh_shell.specs.declared.fault.DesignFault.TheVariants.{File, Opening}
use Rattle.emh_shell.specs.Printing.{word_object, module_object, place_object, text_object}

-- want of memory is never told: it has the code 0 and no object

abbrev pub lex_object : LexFault → List ℕ
lex_object (BadByte at) = place_object at
lex_object (OpenComment at) = place_object at
lex_object (OpenAttribute at) = place_object at
lex_object (BadLiteral at) = place_object at
lex_object (LongName at) = place_object at
lex_object (Directive at) = place_object at
lex_object lex.NoMemory = []

abbrev pub parse_object : ParseFault → List ℕ
parse_object (Unexpected at) = place_object at
parse_object (Unsupported at word) = text_object at word
parse_object parse.NoMemory = []

abbrev pub elab_object : ElabFault → List ℕ
elab_object (Fault kind at name) = text_object at (spell name)
elab_object elab.NoMemory = []

abbrev pub elab_fault_code : ElabFault → ℕ
elab_fault_code (Fault kind at name) = elab_code kind
elab_fault_code elab.NoMemory = 0

abbrev pub read_code : ReadFault → ℕ
read_code (Lex fault) = lex_code fault
read_code (Parse fault) = parse_code fault
read_code (Elab fault) = elab_fault_code fault

abbrev pub read_object : ReadFault → List ℕ
read_object (Lex fault) = lex_object fault
read_object (Parse fault) = parse_object fault
read_object (Elab fault) = elab_object fault

abbrev pub file_code : FileFault → ℕ
file_code TooLong = 37
file_code (Reading fault) = read_code fault

-- the word with the file's name, or what stands at the place of the fault
abbrev pub file_object : List ℕ → FileFault → List ℕ
file_object file TooLong = word_object file
file_object file (Reading fault) = read_object fault

abbrev pub design_code : DesignFault → ℕ
design_code (File fault) = file_code fault
design_code (Opening fault) = open_code fault

abbrev pub design_object : List ℕ → List ℕ → DesignFault → List ℕ
design_object file top (File fault) = file_object file fault
design_object file top (Opening fault) = module_object top
