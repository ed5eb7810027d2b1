use Rattle.std.proofs.Common.{arith, ◌≡◌, ◌+◌, ◌++◌, ◌∷◌, [], sym, ◌∙◌, ap, append_assoc}
use Rattle.std.proofs.lemmas.List.FromFn.{map-range_with_len_more}
use Rattle.emh_base.specs.declared.plain.Src.TheVariants.{Bit}
use Rattle.flatten_rules.specs.Lookup.{bits_from}
use Rattle.vlog_elab.proofs.bits.push_net.Goals as goal

pub loop-step-preserved : goal.loop-step-preserved
loop-step-preserved c =
    let here : c.args.offset + c.loop-step.step ≡ c.in-Ok.place = grind (arith, c.in-Ok.ensures, c.from.ensures) in
    c.in_ok-push.ensures.ok
    ∙ ap (λ bits. bits ++ Bit c.args.net c.in-Ok.place ∷ []) c.loop-step.invariant
    ∙ append_assoc c.args.bits.now (bits_from c.args.net c.args.offset c.loop-step.step) (Bit c.args.net c.in-Ok.place ∷ [])
    ∙ ap (λ bits. c.args.bits.now ++ bits) (sym (map-range_with_len_more (λ k. Bit c.args.net k) c.args.offset c.loop-step.step c.in-Ok.place here))
