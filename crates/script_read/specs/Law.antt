-- The laws of reading: what is written for a value, for the words of a command and for its line reads as it.
use Rattle.std.specs.Prelude.{◌≡◌, ℕ, ◌<◌, ◌^◌, List, Some, IsTrue, bytes_eq}
use Rattle.std.specs.Fmt.{decimal}
use Rattle.std.specs.List.{AllByRecursion, list_all, list_any}
use Rattle.emh_base.specs.Name.{IsName}
use Rattle.emh_base.specs.Text.{spell, path_text}
use Rattle.emh_base.specs.declared.plain.Range.{Range}
use Rattle.script_read.specs.declared.command.BitWord.{BitWord}
use Rattle.script_read.specs.declared.command.Command.{Command}
use Rattle.script_read.specs.Word.{name_of, number_of, range_of, bit_of, path_of}
use Rattle.script_read.specs.Text.{range_text, bit_text}
use Rattle.word_table.specs.LineWords.{line_texts}
use Rattle.script_read.specs.Table.{command_of, netlist_rows}
use Rattle.script_read.specs.Written.{IsRange, IsBitWord, words_by}
use Rattle.script_read.specs.declared.lines.Says.TheVariants.{Asks}
use Rattle.script_read.specs.Script.{line_says, line_text}

-- the word of a value says that value
pub record EachWordReads : Type 0 where
  pub names : (name : List ℕ) → IsName name → name_of (spell name) ≡ Some name
  pub numbers : (n : ℕ) → n < 2 ^ 32 → number_of (decimal n) ≡ Some n
  pub ranges : (range : Range) → IsRange range → range_of (range_text range) ≡ Some range
  pub bits : (bit : BitWord) → IsBitWord bit → bit_of (bit_text bit) ≡ Some bit
  pub paths : (names : List (List ℕ)) → AllByRecursion IsName names → path_of (path_text names) ≡ Some names

-- a command that the words of some line ask for is asked for by the words that are written for it
abbrev pub EachCommandReads : Type 0
EachCommandReads = (words : List (List ℕ)) (command : Command) → command_of words ≡ Some command
    → command_of (words_by command) ≡ Some command

-- the law of lines: what is written for a command that some line asks for asks for it
abbrev pub EachLineReads : Type 0
EachLineReads = (line : List ℕ) (words : List (List ℕ)) (command : Command) → line_says line ≡ Asks words command
    → line_says (line_text command) ≡ Asks (words_by command) command

-- a line asks for one command at most, with one list of words
abbrev pub EachLineAsksOnce : Type 0
EachLineAsksOnce = (line : List ℕ) (words others : List (List ℕ)) (command other : Command)
    → line_says line ≡ Asks words command → line_says line ≡ Asks others other → (words ≡ others) × (command ≡ other)

-- each first word of the table of lines stands among the words with which a line may begin
abbrev pub FirstWordsAreKnown : Type 0
FirstWordsAreKnown = IsTrue (list_all (λ row. list_any (bytes_eq row.0) line_texts) netlist_rows)
