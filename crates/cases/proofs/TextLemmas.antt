use Rattle.std.proofs.Common.{◌≡◌, ℕ, ◌+◌, ◌≤◌, List, [], ◌∷◌, length, drop, refl, arith, ◌∙◌, ap}
use Rattle.std.proofs.lemmas.List.{drop_all}
use Rattle.cases.specs.Compared.{common_lines}

common_lines-nil : (text : List ℕ) → common_lines text [] ≡ 0
common_lines-nil [] = refl
common_lines-nil (byte ∷ text) = refl

-- where the other text has ended no further line is common
pub common_lines-ended : (text other : List ℕ) (at lines all : ℕ) → length other ≤ at →
    lines + common_lines (drop at text) (drop at other) ≡ all → lines ≡ all
common_lines-ended text other at lines all ended counted =
    let none = ap (λ rest. common_lines (drop at text) rest) (drop_all at other ended) ∙ common_lines-nil (drop at text) in
    omega (arith, none, counted)
