-- The lines that reports consist of. This project's own.
use Rattle.std.specs.Prelude.{ℕ, List, ◌++◌, codes}
use Rattle.std.specs.List.{join_with_byte}
use Rattle.emh_base.specs.declared.ids.ModId.{ModId}
use Rattle.emh_base.specs.declared.ids.InstId.{InstId}
use Rattle.emh_base.specs.declared.plain.Plain.{Plain}
use Rattle.flatten_rules.specs.Domains.{NetBit, Pin}
use Rattle.flatten_rules.specs.Texts.{PathAt, BitAt, PinAt, text_of}

-- words with a space between each two, and a newline
abbrev pub line : List (List ℕ) → List ℕ
line words = join_with_byte 32 words ++ codes "\n"

-- the words for what an unfolding has

abbrev pub path_word : Plain → ModId → List InstId → List ℕ
path_word M top path = text_of M top (PathAt path)

abbrev pub bit_word : Plain → ModId → NetBit → List ℕ
bit_word M top bit = text_of M top (BitAt bit)

abbrev pub pin_word : Plain → ModId → Pin → List ℕ
pin_word M top pin = text_of M top (PinAt pin.inst.0 pin.port pin.offset)
