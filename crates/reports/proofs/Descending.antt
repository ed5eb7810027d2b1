-- Ways down along paths.
use Rattle.std.proofs.Common.{◌≡◌, ℕ, ◌+◌, ◌<◌, ◌==◌, List, [], ◌∷◌, ◌++◌, reverse, take, drop, length, get_or, Some, None, refl, sym, ap, ◌∙◌, eqb-true}
use Rattle.std.proofs.lemmas.List.{reverse-append, take-append-drop, take_more}
use Rattle.emh_base.specs.declared.ids.ModId.{ModId}
use Rattle.emh_base.specs.declared.ids.InstId.{InstId}
use Rattle.emh_base.specs.declared.plain.PInst.{PInst}
use Rattle.emh_base.specs.declared.plain.PModule.{PModule}
use Rattle.emh_base.specs.declared.plain.Plain.{Plain}
use Rattle.flatten_rules.specs.Lookup.{inst_of}
use Rattle.flatten_rules.specs.Unfolding.{module_up, inst_up}
use Rattle.flatten_rules.proofs.Walks.{find-passes}
use Rattle.reports.proofs.Looking.{none-below}

-- an instance that is found has the id that was looked for
pub id-of_inst : (m : PModule) (step : InstId) (inst : PInst) → inst_of m step ≡ Some inst → inst.id ≡ step
id-of_inst m step inst found =
    let same : inst.id.0 ≡ step.0 = eqb-true inst.id.0 step.0 (find-passes (λ (x : PInst). x.id.0 == step.0) m.insts inst found) in
    let make : ℕ → InstId = λ n. record { 0 = n } in
    ap make same

pub goes-down : (M : Plain) (top : ModId) (up : List InstId) (m : PModule) (step : InstId) (inst : PInst) → module_up M top up ≡ Some m → inst_of m step ≡ Some inst → inst_up M top inst.id up ≡ Some inst
goes-down M top up m step inst there found =
    let own : inst_of m inst.id ≡ Some inst = ap (inst_of m) (id-of_inst m step inst found) ∙ found in
    rw there own

-- where an instance isn't there, no path leads on through it
no-step : (M : Plain) (top : ModId) (up : List InstId) (m : PModule) (step : InstId) → module_up M top up ≡ Some m → inst_of m step ≡ None → module_up M top (step ∷ up) ≡ None
unfolding module_up
no-step M top up m step there none = rw (there, none) refl

pub stops : (M : Plain) (top : ModId) (path : List InstId) (i : ℕ) (m : PModule) (step : InstId) → i < length path → step ≡ get_or path i step → module_up M top (reverse (take i path)) ≡ Some m → inst_of m step ≡ None → module_up M top (reverse path) ≡ None
stops M top path i m step within at there none =
    let first : take (i + 1) path ≡ take i path ++ step ∷ [] = take_more path i step within ∙ ap (λ s. take i path ++ s ∷ []) (sym at) in
    let up : reverse (take (i + 1) path) ≡ step ∷ reverse (take i path) = ap reverse first ∙ reverse-append (take i path) (step ∷ []) in
    let all : reverse path ≡ reverse (drop (i + 1) path) ++ (step ∷ reverse (take i path)) =
    ap reverse (sym (take-append-drop (i + 1) path)) ∙ reverse-append (take (i + 1) path) (drop (i + 1) path) ∙ ap (λ us. reverse (drop (i + 1) path) ++ us) up in
    ap (module_up M top) all ∙ none-below M top (reverse (drop (i + 1) path)) (step ∷ reverse (take i path)) (no-step M top (reverse (take i path)) m step there none)
