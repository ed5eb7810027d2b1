-- Paths that begin in the same way.
use Rattle.std.proofs.Common.{◌≡◌, ℕ, ◌+◌, ◌<◌, List, [], ◌∷◌, ◌++◌, take, length, get_or, sym, ap, ◌∙◌, arith}
use Rattle.std.proofs.lemmas.List.{get_or-map, get_or_default, length-map, take_more, take_more_same}
use Rattle.emh_base.specs.declared.ids.InstId.{InstId}
use Rattle.flatten_rules.specs.inside.Steps.{path_of}
use Rattle.flatten_rules.specs.declared.walk.way.Step.{Step}

-- the instance of a step stands in the path
pub step-there : (steps : List Step) (i : ℕ) (step : Step) → i < length steps → step ≡ get_or steps i step → get_or (path_of steps) i step.inst.now.id ≡ step.inst.now.id
step-there steps i step within at =
    get_or-map (λ (s : Step). s.inst.now.id) steps i step step.inst.now.id within ∙ ap (λ (s : Step). s.inst.now.id) (sym at)

pub path-more : (steps : List Step) (i : ℕ) (step : Step) → i < length steps → step ≡ get_or steps i step → take (i + 1) (path_of steps) ≡ take i (path_of steps) ++ step.inst.now.id ∷ []
path-more steps i step within at =
    take_more (path_of steps) i step.inst.now.id (omega (arith, within, length-map steps (λ (s : Step). s.inst.now.id)))
    ∙ ap (λ id. take i (path_of steps) ++ id ∷ []) (step-there steps i step within at)

same-id : (a b : InstId) → a.0 ≡ b.0 → a ≡ b
same-id a b same = let make : ℕ → InstId = λ n. record { 0 = n } in ap make same

-- two paths that are the same so far, and at the next step
pub same-more : (a b : List InstId) (i : ℕ) (x y : InstId) → i < length a → i < length b → take i a ≡ take i b → get_or a i x ≡ x → get_or b i y ≡ y → x.0 ≡ y.0 → take (i + 1) a ≡ take (i + 1) b
same-more a b i x y in_a in_b before at_a at_b same =
    take_more_same a b i x in_a in_b before (at_a ∙ same-id x y same ∙ sym at_b ∙ get_or_default b i y x in_b)
