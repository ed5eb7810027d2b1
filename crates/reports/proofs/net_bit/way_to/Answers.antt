use Rattle.std.proofs.Common.{◌≡◌, ◌+◌, ◌<◌, ◌==◌, [], ◌∷◌, ◌++◌, List, reverse, take, length, get_or, find, Some, None, sym, ap, ◌∙◌, arith}
use Rattle.std.proofs.lemmas.List.{get_or_default, take_more}
use Rattle.emh_base.specs.declared.ids.InstId.{InstId}
use Rattle.emh_base.specs.declared.plain.PInst.{PInst}
use Rattle.flatten_rules.specs.Lookup.{inst_of}
use Rattle.flatten_rules.specs.Unfolding.{module_up}
use Rattle.flatten_rules.specs.Way.{WayTo, with_path}
use Rattle.reports.proofs.Descending.{id-of_inst, goes-down, stops}
use Rattle.reports.proofs.net_bit.way_to.Goals as goal

zero : InstId
zero = record { 0 = 0 }

pub returns-in-None : goal.returns-in-None
unfolding zero
returns-in-None c =
    let M = c.args.plain.now in
    let top = c.args.top in
    let m = c.module.result.now in
    let items = c.steps-step-items.result.now in
    let i = c.loop-step.step-index in
    let step : InstId = get_or items i zero in
    let within : i < length items = omega arith in
    let there = ap (λ (w : WayTo). module_up w.plain w.top (reverse w.path)) (sym c.loop-step.invariant) ∙ c.module.ensures.there in
    let none : inst_of m step ≡ None = ap (λ (xs : List PInst). find (λ (x : PInst). x.id.0 == step.0) xs) (sym c.as_slice.ensures) ∙ sym c.in-None.ensures in
    ap (λ p. module_up M top (reverse p)) (sym c.steps-step-items.ensures)
    ∙ stops M top items i m step within (get_or_default items i zero step within) there none

pub push-requires : goal.push-requires
unfolding zero
push-requires c =
    let way = c.loop-step.way in
    let m = c.module.result.now in
    let step : InstId = get_or c.steps-step-items.result.now c.loop-step.step-index zero in
    let found : inst_of m step ≡ Some c.in-Some.inst.now = ap (λ (xs : List PInst). find (λ (x : PInst). x.id.0 == step.0) xs) (sym c.as_slice.ensures) ∙ sym c.in-Some.ensures in
    goes-down way.plain way.top (reverse way.path) m step c.in-Some.inst.now c.module.ensures.there found

pub loop-step-preserved : goal.loop-step-preserved
unfolding zero
loop-step-preserved c =
    let M = c.args.plain.now in
    let top = c.args.top in
    let m = c.module.result.now in
    let items = c.steps-step-items.result.now in
    let i = c.loop-step.step-index in
    let inst = c.in-Some.inst.now in
    let step : InstId = get_or items i zero in
    let within : i < length items = omega arith in
    let found : inst_of m step ≡ Some inst = ap (λ (xs : List PInst). find (λ (x : PInst). x.id.0 == step.0) xs) (sym c.as_slice.ensures) ∙ sym c.in-Some.ensures in
    let path : take i items ++ inst.id ∷ [] ≡ take (i + 1) items = ap (λ s. take i items ++ s ∷ []) (id-of_inst m step inst found) ∙ sym (take_more items i zero within) in
    let make : List InstId → WayTo = λ p. record { plain = M; top = top; path = p } in
    c.in_ok-push-in-Some.ensures.ok
    ∙ ap (λ (w : WayTo). with_path w (w.path ++ inst.id ∷ [])) c.loop-step.invariant
    ∙ ap make path
