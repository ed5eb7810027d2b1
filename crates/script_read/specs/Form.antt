-- Forms of lines. A form reads the words behind a line's first word, from the left.
use Rattle.std.specs.Prelude.{ℕ, List, [], ◌∷◌, Option, Some, None, option_map, option_and_then, if◌then◌else◌, codes, bytes_eq}
use Rattle.emh_base.specs.declared.report.Kind.{Kind}
use Rattle.emh_base.specs.declared.report.Kind.TheVariants as report
use Rattle.script_read.specs.declared.command.BitWord.{BitWord}
use Rattle.script_read.specs.declared.command.Command.{Command}
use Rattle.script_read.specs.Word.{name_of, bit_of}

-- what words ask for; none where they are no words of the form
abbrev pub Form : Type 0
Form = List (List ℕ) → Option Command

-- one word of a kind, and what the words behind it ask for
abbrev pub next : {A : Type 0} → (List ℕ → Option A) → (A → Form) → Form
next read form [] = None
next read form (word ∷ words) = option_and_then (λ value. form value words) (read word)

-- the same, or no word
abbrev pub maybe : {A : Type 0} → (List ℕ → Option A) → (Option A → Form) → Form
maybe read form [] = form None []
maybe read form (word ∷ words) = option_and_then (λ value. form (Some value) words) (read word)

-- no word more
abbrev pub done : Command → Form
done command [] = Some command
done command (word ∷ words) = None

-- sources, as many as there are words
abbrev pub bits_of : List (List ℕ) → Option (List BitWord)
bits_of [] = Some []
bits_of (word ∷ words) = option_and_then (λ bit. option_map (λ bits. bit ∷ bits) (bits_of words)) (bit_of word)

-- one source or more
abbrev pub bits : (List BitWord → Command) → Form
bits command [] = None
bits command (word ∷ words) = option_map command (bits_of (word ∷ words))

-- forms of names alone
abbrev pub name_form : (List ℕ → Command) → Form
name_form command = next name_of (λ a. done (command a))

abbrev pub two_names : (List ℕ → List ℕ → Command) → Form
two_names command = next name_of (λ a. name_form (command a))

abbrev pub three_names : (List ℕ → List ℕ → List ℕ → Command) → Form
three_names command = next name_of (λ a. two_names (command a))

-- a report that one word asks for
abbrev pub plain_kind : List ℕ → Option Kind
plain_kind word =
    if bytes_eq word (codes "pins") then Some report.Pins
    else if bytes_eq word (codes "block") then Some report.Block
    else if bytes_eq word (codes "occurrences") then Some report.Occurrences
    else if bytes_eq word (codes "modules") then Some report.Modules
    else if bytes_eq word (codes "counts") then Some report.Counts
    else if bytes_eq word (codes "log") then Some report.Log
    else None

-- a first word, and the form of what stands behind it
abbrev pub Row : Type 0
Row = List ℕ × Form
