-- The word that is written for a value.
use Rattle.std.specs.Prelude.{ℕ, List, [], ◌∷◌, ◌++◌, Option, Some, None, codes}
use Rattle.std.specs.Fmt.{decimal}
use Rattle.emh_base.specs.Text.{spell, front_text}
use Rattle.emh_base.specs.declared.placement.Orient.{Orient}
use Rattle.emh_base.specs.declared.placement.Orient.TheVariants.{R0, R90, R180, R270, MX, MY, MXR90, MYR90}
use Rattle.emh_base.specs.declared.placement.Status.{Status}
use Rattle.emh_base.specs.declared.placement.Status.TheVariants.{Placed, Fixed}
use Rattle.emh_base.specs.declared.plain.Range.{Range}
use Rattle.script_read.specs.declared.command.BitWord.{BitWord}
use Rattle.script_read.specs.declared.command.BitWord.TheVariants.{Zero, One, Net}

-- two numbers with a : between them
abbrev pub pair_text : Range → List ℕ
pair_text range = decimal range.left ++ 58 ∷ decimal range.right

abbrev pub range_text : Range → List ℕ
range_text range = 91 ∷ pair_text range ++ 93 ∷ []

abbrev pub select_text : Option Range → List ℕ
select_text None = []
select_text (Some range) = range_text range

abbrev pub bit_text : BitWord → List ℕ
bit_text Zero = codes "=0"
bit_text One = codes "=1"
bit_text (Net net select) = spell net ++ select_text select

abbrev pub index_text : Option ℕ → List ℕ
index_text None = []
index_text (Some index) = 91 ∷ decimal index ++ 93 ∷ []

abbrev pub net_bit_text : List (List ℕ) → List ℕ → Option ℕ → List ℕ
net_bit_text path net index = front_text path ++ (spell net ++ index_text index)

abbrev pub orient_text : Orient → List ℕ
orient_text R0 = codes "R0"
orient_text R90 = codes "R90"
orient_text R180 = codes "R180"
orient_text R270 = codes "R270"
orient_text MX = codes "MX"
orient_text MY = codes "MY"
orient_text MXR90 = codes "MXR90"
orient_text MYR90 = codes "MYR90"

abbrev pub status_text : Status → List ℕ
status_text Placed = codes "Placed"
status_text Fixed = codes "Fixed"
