-- Items that are told one by one.
use Rattle.std.proofs.Common.{◌≡◌, ℕ, ◌+◌, Bool, true, List, [], ◌∷◌, ◌++◌, map, filter, append_assoc, refl, sym, ap, ◌∙◌, arith}
use Rattle.std.specs.List.{range_with_len}
use Rattle.std.proofs.lemmas.List.FromFn.{map-range_with_len_more}

-- those so far with those that are still to come, and some more
pub told-more : {Z : Type 0} (old part new before after all : List Z) → old ++ before ≡ all → before ≡ part ++ after → new ≡ old ++ part → new ++ after ≡ all
told-more old part new before after all so_far next more =
    ap (λ zs. zs ++ after) more ∙ append_assoc old part after ∙ ap (λ zs. old ++ zs) (sym next) ∙ so_far

-- the next of those that pass a test
pub next-passes : {X Z : Type 0} (f : X → Z) (p : X → Bool) (x : X) (before rest : List X) → before ≡ x ∷ rest → p x ≡ true → map f (filter p before) ≡ f x ∷ map f (filter p rest)
next-passes f p x before rest next passes = rw (next, passes) refl

-- one more number
pub numbered-more : {Z : Type 0} (f : ℕ → Z) (k : ℕ) (z : Z) (old mid new : List Z) → mid ≡ old ++ map f (range_with_len 0 k) → z ≡ f k → new ≡ mid ++ z ∷ [] → new ≡ old ++ map f (range_with_len 0 (k + 1))
numbered-more f k z old mid new before here pushed =
    pushed ∙ ap (λ zs. zs ++ z ∷ []) before ∙ append_assoc old (map f (range_with_len 0 k)) (z ∷ [])
    ∙ ap (λ y. old ++ (map f (range_with_len 0 k) ++ y ∷ [])) here
    ∙ ap (λ zs. old ++ zs) (sym (map-range_with_len_more f 0 k k (omega arith)))
