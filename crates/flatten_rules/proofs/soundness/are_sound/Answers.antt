use Rattle.std.proofs.Common.{◌<◌, List, length, get_or, ap, subst, sym, ◌∙◌, take, refl, arith}
use Rattle.std.proofs.lemmas.List.{take_all}
use Rattle.std.proofs.lemmas.List.Elements.{All-more, All-same}
use Rattle.emh_base.specs.declared.plain.PModule.{PModule}
use Rattle.flatten_rules.specs.Sound.{IsSoundModule}
use Rattle.flatten_rules.specs.Checks.{HasNets}
use Rattle.flatten_rules.proofs.soundness.are_sound.Goals as goal

pub is_sound_module-requires-clause-own : goal.is_sound_module-requires-clause-own
is_sound_module-requires-clause-own c =
    let items = c.as_slice-holder-items.ensures in
    let i = c.loop-holder.holder-index in
    let within : i < length c.args.plain.now.modules = omega (arith, ap length items, c.loop-holder-test.true) in
    let at = c.holder-item.is ∙ ap (λ (modules : List PModule). get_or modules i c.holder-item.result) items in
    subst HasNets (sym at) (c.requires.nets i c.holder-item.result within)

pub loop-holder-preserved : goal.loop-holder-preserved
loop-holder-preserved c =
    All-more (IsSoundModule c.args.plain.now) c.as_slice-holder-items.result.now c.loop-holder.holder-index c.holder-item.result c.loop-holder-test.true
    c.loop-holder.invariant
    (subst (IsSoundModule c.args.plain.now) c.holder-item.is (c.in_ok-is_sound_module.ensures.0 c.if-not-branch.false))

pub returns : goal.returns
returns c =
    let items = c.as_slice-holder-items.ensures in
    let whole = take_all c.loop-holder.holder-index c.as_slice-holder-items.result.now c.loop-holder-test.false in (
      λ _. All-same (IsSoundModule c.args.plain.now) c.args.plain.now.modules (take c.loop-holder.holder-index c.as_slice-holder-items.result.now) (sym items ∙ sym whole) c.loop-holder.invariant,
      λ _. refl,
    )
