-- Pieces of a line as they are put down one after the other.
use Rattle.std.specs.Prelude.{ℕ, ◌∷◌, List}
use Rattle.std.specs.List.{flat_map}
use Rattle.emh_base.specs.Text.{spell}
use Rattle.script_read.specs.declared.command.BitWord.{BitWord}
use Rattle.script_read.specs.Text.{bit_text}

-- each word behind a space
abbrev pub tail_text : List (List ℕ) → List ℕ
tail_text words = flat_map (λ word. 32 ∷ word) words

-- each source behind a space
abbrev pub bits_text : List BitWord → List ℕ
bits_text bits = flat_map (λ bit. 32 ∷ bit_text bit) bits

-- each name behind a /
abbrev pub steps_text : List (List ℕ) → List ℕ
steps_text names = flat_map (λ name. 47 ∷ spell name) names
