-- The module at a path, step by step.
use Rattle.std.proofs.Common.{◌≡◌, ℕ, ◌+◌, ◌<◌, ◌==◌, List, [], ◌∷◌, ◌++◌, length, get_or, take, reverse, Option, Some, option_and_then, AllPairs, refl, sym, ap, ◌∙◌, add-one}
use Rattle.std.proofs.Math.Seq.{take-suc}
use Rattle.std.proofs.lemmas.List.{reverse-append}
use Rattle.emh_base.specs.declared.ids.ModId.{ModId}
use Rattle.emh_base.specs.declared.ids.InstId.{InstId}
use Rattle.emh_base.specs.declared.plain.PInst.{PInst}
use Rattle.emh_base.specs.declared.plain.PModule.{PModule}
use Rattle.emh_base.specs.declared.plain.Plain.{Plain}
use Rattle.flatten_rules.specs.Lookup.{module_of, inst_of}
use Rattle.flatten_rules.specs.Unfolding.{module_up}
use Rattle.flatten_rules.proofs.Sound.{All-find}
use Rattle.flatten_rules.proofs.Walks.{up-own}
use Rattle.edit_rules.specs.inside.Order.{InOrder}
use Rattle.edit_rules.specs.Readers.{master_of}

-- the master of an instance of a module, where both are there
abbrev pub below : Plain → Option PModule → InstId → Option PModule
below M holder step = master_of M (option_and_then (λ m. inst_of m step) holder)

pub up-top : (M : Plain) (top : ModId) → module_up M top [] ≡ module_of M top
unfolding module_up
up-top M top = refl

up-step : (M : Plain) (top : ModId) (step : InstId) (up : List InstId) → module_up M top (step ∷ up) ≡ below M (module_up M top up) step
unfolding module_up
up-step M top step up = refl

-- one step more
pub up-more : (M : Plain) (top : ModId) (steps : List InstId) (i : ℕ) (d : InstId) → i < length steps → module_up M top (reverse (take (i + 1) steps)) ≡ below M (module_up M top (reverse (take i steps))) (get_or steps i d)
up-more M top steps i d within =
    let longer : take (i + 1) steps ≡ take i steps ++ get_or steps i d ∷ [] = rw (add-one i) (take-suc steps i d within) in
    let turned : reverse (take (i + 1) steps) ≡ get_or steps i d ∷ reverse (take i steps) = ap reverse longer ∙ reverse-append (take i steps) (get_or steps i d ∷ []) in
    ap (module_up M top) turned ∙ up-step M top (get_or steps i d) (reverse (take i steps))

-- the instances of a module at a path are in order
pub insts-rise : (M : Plain) (top : ModId) (up : List InstId) (m : PModule) → InOrder M → Some m ≡ module_up M top up → AllPairs (λ (a b : PInst). a.id.0 < b.id.0) m.insts
insts-rise M top up m order found =
    All-find (λ (x : PModule). AllPairs (λ (a b : PInst). a.id.0 < b.id.0) x.insts) (λ x. x.id.0 == m.id.0) M.modules m order.insts (up-own M top up m (sym found))
