use Rattle.std.specs.Prelude.{◌≡◌, ℕ, List, [], ◌∷◌, map}
use Rattle.emh_base.specs.TwoLevel.{two_level}
use Rattle.flatten_rules.specs.Unfolding.{Occurrence, occurrences}

-- an occurrence by the numbers of the instances that lead to it, and of its module
abbrev pub occurrence : List ℕ → ℕ → Occurrence
occurrence path m = (map (λ n. record { 0 = n }) path, record { 0 = m })

-- The worked example unfolds to seven occurrences: the top (3), its two pairs (2) and their
-- inverters (0), in preorder.
abbrev pub TwoLevelUnfolds : Type 0
TwoLevelUnfolds =
    occurrences two_level (record { 0 = 3 })
    ≡ occurrence [] 3
    ∷ occurrence (0 ∷ []) 2
    ∷ occurrence (0 ∷ 0 ∷ []) 0
    ∷ occurrence (0 ∷ 1 ∷ []) 0
    ∷ occurrence (1 ∷ []) 2
    ∷ occurrence (1 ∷ 0 ∷ []) 0
    ∷ occurrence (1 ∷ 1 ∷ []) 0
    ∷ []
