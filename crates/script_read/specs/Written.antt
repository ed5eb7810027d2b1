-- The line that is written for a command: its first word, and the values that its other words say.
use Rattle.std.specs.Prelude.{Bool, true, false, ◌&&◌, ℕ, ℤ, ◌<◌, ◌^◌, List, [], ◌∷◌, map, flat_map, Option, Some, None, codes, pos, negsuc}
use Rattle.std.specs.List.{AllByRecursion, list_all}
use Rattle.std.specs.Fmt.{decimal, signed_decimal}
use Rattle.emh_base.specs.Name.{IsName, is_name_byte}
use Rattle.emh_base.specs.Text.{dir_text, spell, path_text}
use Rattle.emh_base.specs.declared.plain.Range.{Range}
use Rattle.emh_base.specs.declared.plain.Dir.{Dir}
use Rattle.emh_base.specs.declared.placement.Orient.{Orient}
use Rattle.emh_base.specs.declared.placement.Status.{Status}
use Rattle.emh_base.specs.declared.report.Kind.{Kind}
use Rattle.emh_base.specs.declared.report.Kind.TheVariants as report
use Rattle.script_read.specs.declared.command.BitWord.{BitWord}
use Rattle.script_read.specs.declared.command.Command.{Command}
use Rattle.script_read.specs.declared.command.Command.TheVariants as command
use Rattle.script_read.specs.Text.{range_text, bit_text, orient_text, status_text, net_bit_text}
use Rattle.script_read.specs.declared.command.BitWord.TheVariants.{Zero, One, Net}

-- values that words can say

abbrev pub IsRange : Range → Type 0
IsRange range = (range.left < 2 ^ 32) × (range.right < 2 ^ 32)

abbrev pub IsSelect : Option Range → Type 0
IsSelect None = Unit {0}
IsSelect (Some range) = IsRange range

abbrev pub IsBitWord : BitWord → Type 0
IsBitWord Zero = Unit {0}
IsBitWord One = Unit {0}
IsBitWord (Net net select) = IsName net × IsSelect select

-- a value that a word says, or that some words say
pub data Field : Type 0 where
  File : List ℕ → Field
  Name : List ℕ → Field
  Number : ℕ → Field
  Signed : ℤ → Field
  MaybeRange : Option Range → Field
  Direction : Dir → Field
  Oriented : Orient → Field
  Standing : Status → Field
  Bits : List BitWord → Field
  Path : List (List ℕ) → Field
  NetBit : List (List ℕ) → List ℕ → Option ℕ → Field
  Word : List ℕ → Field

abbrev pub range_words : Option Range → List (List ℕ)
range_words None = []
range_words (Some range) = range_text range ∷ []

-- the words that say it
abbrev pub words_of : Field → List (List ℕ)
words_of (File file) = file ∷ []
words_of (Name name) = spell name ∷ []
words_of (Number number) = decimal number ∷ []
words_of (Signed number) = signed_decimal number ∷ []
words_of (MaybeRange range) = range_words range
words_of (Direction dir) = dir_text dir ∷ []
words_of (Oriented orient) = orient_text orient ∷ []
words_of (Standing status) = status_text status ∷ []
words_of (Bits bits) = map bit_text bits
words_of (Path path) = path_text path ∷ []
words_of (NetBit path net index) = net_bit_text path net index ∷ []
words_of (Word word) = word ∷ []

abbrev pub IsIndex : Option ℕ → Type 0
IsIndex None = Unit {0}
IsIndex (Some index) = index < 2 ^ 32

abbrev pub IsSigned : ℤ → Type 0
IsSigned (pos number) = number < 2 ^ 31
IsSigned (negsuc number) = number < 2 ^ 31

abbrev pub AreBits : List BitWord → Type 0
AreBits [] = ⊥
AreBits (bit ∷ bits) = AllByRecursion IsBitWord (bit ∷ bits)

abbrev pub is_some_word : List ℕ → Bool
is_some_word [] = false
is_some_word (byte ∷ bytes) = true

abbrev pub Passes : Bool → Type 0
Passes true = Unit {0}
Passes false = ⊥

-- some word, or words, say it
abbrev pub IsField : Field → Type 0
IsField (File file) = IsName file
IsField (Name name) = IsName name
IsField (Number number) = number < 2 ^ 32
IsField (Signed number) = IsSigned number
IsField (MaybeRange range) = IsSelect range
IsField (Direction dir) = Unit {0}
IsField (Oriented orient) = Unit {0}
IsField (Standing status) = Unit {0}
IsField (Bits bits) = AreBits bits
IsField (Path path) = AllByRecursion IsName path
IsField (NetBit path net index) = AllByRecursion IsName path × IsName net × IsIndex index
IsField (Word word) = Passes (is_some_word word && list_all is_name_byte word)

abbrev pub kind_fields : Kind → List Field
kind_fields report.Pins = Word (codes "pins") ∷ []
kind_fields report.Block = Word (codes "block") ∷ []
kind_fields report.Occurrences = Word (codes "occurrences") ∷ []
kind_fields report.Modules = Word (codes "modules") ∷ []
kind_fields report.Counts = Word (codes "counts") ∷ []
kind_fields report.Log = Word (codes "log") ∷ []
kind_fields (report.Net path net index) = Word (codes "net") ∷ NetBit path net index ∷ []
kind_fields (report.Where name) = Word (codes "where") ∷ Name name ∷ []

-- a command as its line has it
abbrev pub fields_of : Command → List Field
fields_of (command.Load file top) = Word (codes "load") ∷ File file ∷ Name top ∷ []
fields_of (command.Cells file) = Word (codes "cells") ∷ File file ∷ []
fields_of (command.Write file) = Word (codes "write") ∷ File file ∷ []
fields_of (command.Compare file top) = Word (codes "compare") ∷ File file ∷ Name top ∷ []
fields_of (command.Generate seed modules width) = Word (codes "generate") ∷ Number seed ∷ Number modules ∷ Number width ∷ []
fields_of (command.Churn seed turns) = Word (codes "churn") ∷ Number seed ∷ Number turns ∷ []
fields_of command.Undo = Word (codes "undo") ∷ []
fields_of command.Redo = Word (codes "redo") ∷ []
fields_of (command.Observe observer) = Word (codes "observe") ∷ Name observer ∷ []
fields_of (command.Ignore observer) = Word (codes "ignore") ∷ Name observer ∷ []
fields_of (command.Report kind) = Word (codes "report") ∷ kind_fields kind
fields_of (command.CreateModule name) = Word (codes "create_module") ∷ Name name ∷ []
fields_of (command.DeleteModule holder) = Word (codes "delete_module") ∷ Name holder ∷ []
fields_of (command.CreateNet holder name range) = Word (codes "create_net") ∷ Name holder ∷ Name name ∷ MaybeRange range ∷ []
fields_of (command.DeleteNet holder net) = Word (codes "delete_net") ∷ Name holder ∷ Name net ∷ []
fields_of (command.CreatePort holder name dir range) = Word (codes "create_port") ∷ Name holder ∷ Name name ∷ Direction dir ∷ MaybeRange range ∷ []
fields_of (command.DeletePort holder port) = Word (codes "delete_port") ∷ Name holder ∷ Name port ∷ []
fields_of (command.CreateInst holder name master) = Word (codes "create_inst") ∷ Name holder ∷ Name name ∷ Name master ∷ []
fields_of (command.DeleteInst holder inst) = Word (codes "delete_inst") ∷ Name holder ∷ Name inst ∷ []
fields_of (command.Connect holder inst port bits) = Word (codes "connect") ∷ Name holder ∷ Name inst ∷ Name port ∷ Bits bits ∷ []
fields_of (command.Disconnect holder inst port) = Word (codes "disconnect") ∷ Name holder ∷ Name inst ∷ Name port ∷ []
fields_of (command.RenameModule holder name) = Word (codes "rename_module") ∷ Name holder ∷ Name name ∷ []
fields_of (command.RenameNet holder net name) = Word (codes "rename_net") ∷ Name holder ∷ Name net ∷ Name name ∷ []
fields_of (command.RenameInst holder inst name) = Word (codes "rename_inst") ∷ Name holder ∷ Name inst ∷ Name name ∷ []
fields_of (command.Resize holder inst master) = Word (codes "resize") ∷ Name holder ∷ Name inst ∷ Name master ∷ []
fields_of (command.Uniquify holder inst name) = Word (codes "uniquify") ∷ Name holder ∷ Name inst ∷ Name name ∷ []
fields_of (command.Place path x y orient status) = Word (codes "place") ∷ Path path ∷ Signed x ∷ Signed y ∷ Oriented orient ∷ Standing status ∷ []
fields_of (command.Unplace path) = Word (codes "unplace") ∷ Path path ∷ []
fields_of (command.Lock holder) = Word (codes "lock") ∷ Name holder ∷ []
fields_of (command.Unlock holder) = Word (codes "unlock") ∷ Name holder ∷ []
fields_of (command.SetFanout max cell) = Word (codes "set_fanout") ∷ Number max ∷ Name cell ∷ []
fields_of (command.SetGrid grid) = Word (codes "set_grid") ∷ Number grid ∷ []

-- the words of the line that is written for a command
abbrev pub words_by : Command → List (List ℕ)
words_by command = flat_map words_of (fields_of command)

-- some line reads as it, by its fields
abbrev pub IsWritable : Command → Type 0
IsWritable command = AllByRecursion IsField (fields_of command)
