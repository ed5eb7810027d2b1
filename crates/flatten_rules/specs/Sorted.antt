-- Texts in rising order of their bytes, one as often as it was given.
use Rattle.std.specs.Prelude.{ℕ, List, [], ◌∷◌, if◌then◌else◌}
use Rattle.std.specs.Ordering.{nat_cmp, is_gt}
use Rattle.std.specs.Cmp.Lexicographic.{slice_cmp}

-- a text in its place among such as rise: before the first that is not below it
unfoldable pub placed : List ℕ → List (List ℕ) → List (List ℕ)
placed text [] = text ∷ []
placed text (next ∷ others) =
    if is_gt (slice_cmp nat_cmp text next) then next ∷ placed text others else text ∷ next ∷ others

unfoldable pub sorted : List (List ℕ) → List (List ℕ)
sorted [] = []
sorted (text ∷ others) = placed text (sorted others)
