-- The words of a command line: `[--budget N] SCRIPT`, as clap reads the words of a simple command.
use Rattle.std.specs.Prelude.{ℕ, nat_le, true, List, [], ◌∷◌, length, Option, Some, None, option_map, option_and_then, codes, if◌then◌else◌}
use Rattle.clap.specs.Words.{App, Row, Rule, fault_of, first_of, matches_of, new_app, new_rule, with_rule}
use Rattle.clap.specs.Kinds.{Kinds}
use Rattle.clap.specs.declared.builder.action.ArgAction.TheVariants.{Set}
use Rattle.script_read.specs.Word.{number_of}
use Rattle.command_line.specs.declared.words.Asked.{Asked}

-- an option that takes one value, and a word that has to be there
abbrev pub budget_option : Rule
budget_option = record (new_rule (codes "budget")) { long = Some (codes "budget"); action = Some Set }

abbrev pub script_word : Rule
script_word = record (new_rule (codes "script")) { required = true; action = Some Set }

abbrev pub command_line : App
command_line = with_rule (with_rule (new_app (codes "emhdb")) budget_option) script_word

-- N is 1 to 6 digits, at most 100,000
abbrev pub within_limit : ℕ → Option ℕ
within_limit budget = if nat_le budget 100000 then Some budget else None

abbrev pub budget_of : List ℕ → Option ℕ
budget_of text = if nat_le (length text) 6 then option_and_then within_limit (number_of text) else None

-- without an option the budget is 1,000
abbrev pub given : Option (List ℕ) → Option (List ℕ) → Option Asked
given None text = None
given (Some script) None = Some (record { budget = 1000; script = script })
given (Some script) (Some text) = option_map (λ budget. record { budget = budget; script = script }) (budget_of text)

-- what clap matches, where it finds no fault
abbrev pub asked_by : Kinds → List Row → Option Asked
asked_by [] rows = given (first_of (codes "script") rows) (first_of (codes "budget") rows)
asked_by (kind ∷ kinds) rows = None

-- what the words behind the program's name ask for
abbrev pub asked : List (List ℕ) → Option Asked
asked words = asked_by (fault_of command_line (codes "emhdb" ∷ words)) (matches_of command_line (codes "emhdb" ∷ words))
