use Rattle.std.proofs.Common.{ℕ, List, [], ◌∷◌, ◌++◌, option_to_list, take, sym, ap, ◌∙◌, append-nil}
use Rattle.emh_base.specs.declared.plain.PInst.{PInst}
use Rattle.flatten_rules.specs.Lookup.{place_of}
use Rattle.flatten_rules.specs.Graph.{places_of}
use Rattle.flatten_rules.proofs.Cycling.{filter_map-more}
use Rattle.flatten_rules.proofs.cycle.places_of.Goals as goal
use Rattle.flatten_rules.proofs.cycle.places_of.Goals.{in-Some+in_ok-push-in-Some, in-None}

pub loop-inst-preserved : goal.loop-inst-preserved
loop-inst-preserved c =
    let M = c.args.plain.now in
    let insts = c.args.insts.now in
    let i = c.loop-inst.inst-index in
    let inst = c.inst-item.result in
    let before : List ℕ = places_of M (take i insts) in
    let more = filter_map-more (λ (x : PInst). place_of M x.master) insts i inst c.loop-inst-test.true c.inst-item.is in
    elim c.match-place_of_module.branch [
      | in-Some+in_ok-push-in-Some w ↦
          w.places-is ∙ w.in_ok-push-in-Some.ensures.ok ∙ ap (λ xs. xs ++ w.in-Some.place ∷ []) c.loop-inst.invariant
          ∙ sym (more ∙ ap (λ o. before ++ option_to_list o) (sym w.in-Some.ensures.place))
      | in-None w ↦
          w.places-is ∙ c.loop-inst.invariant
          ∙ sym (more ∙ ap (λ o. before ++ option_to_list o) (sym w.in-None.ensures.place) ∙ append-nil before)
    ]
