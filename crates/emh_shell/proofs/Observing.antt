-- The lines of the observers that were put so far, and those that are to come.
use Rattle.std.proofs.Common.{◌≡◌, ℕ, zero, suc, ◌+◌, ◌≤◌, Bool, List, [], ◌∷◌, ◌++◌, drop, length, Option, Some, None, sym, ap, ap₂, ◌∙◌, arith, append_assoc, append-nil}
use Rattle.std.specs.Prelude.{slice_get}
use Rattle.std.proofs.lemmas.List.{drop_all}
use Rattle.emh_shell.specs.Reports.{observer_line, observer_lines}

one-more : (i : ℕ) → suc i + 1 ≡ suc (i + 1)
one-more i = omega arith

-- the mark at a place, and those behind it
pub mark-here : (marks : List Bool) (i : ℕ) (mark : Bool) → slice_get marks i ≡ Some mark → drop i marks ≡ mark ∷ drop (i + 1) marks
mark-here [] i mark at = let never : None ≡ Some mark = at in absurd (cc)
mark-here (b ∷ bs) zero mark at = let same : Some b ≡ Some mark = at in ap (λ z. z ∷ bs) (cc)
mark-here (b ∷ bs) (suc i) mark at = mark-here bs i mark at ∙ ap (λ k. mark ∷ drop k (b ∷ bs)) (sym (one-more i))

pub lines-more : (names : List (List ℕ)) (marks : List Bool) (i : ℕ) (name : List ℕ) (mark : Bool) (out new whole : List ℕ) → drop i names ≡ name ∷ drop (i + 1) names → drop i marks ≡ mark ∷ drop (i + 1) marks
    → new ≡ out ++ observer_line (name, mark) → out ++ observer_lines (drop i names) (drop i marks) ≡ whole
    → new ++ observer_lines (drop (i + 1) names) (drop (i + 1) marks) ≡ whole
lines-more names marks i name mark out new whole at_name at_mark is before =
    ap (λ z. z ++ observer_lines (drop (i + 1) names) (drop (i + 1) marks)) is
    ∙ append_assoc out (observer_line (name, mark)) (observer_lines (drop (i + 1) names) (drop (i + 1) marks))
    ∙ ap (λ z. out ++ z) (sym (ap₂ observer_lines at_name at_mark))
    ∙ before

-- at the end none is to come
pub lines-all : (names : List (List ℕ)) (marks : List Bool) (i : ℕ) (out whole : List ℕ) → length names ≤ i
    → out ++ observer_lines (drop i names) (drop i marks) ≡ whole → out ≡ whole
lines-all names marks i out whole past before =
    sym (append-nil out) ∙ ap (λ z. out ++ observer_lines z (drop i marks)) (sym (drop_all i names past)) ∙ before
