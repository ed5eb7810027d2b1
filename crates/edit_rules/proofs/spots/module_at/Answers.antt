use Rattle.std.proofs.Common.{get_or, ap, sym, ◌∙◌}
use Rattle.std.specs.Option.{option_copied}
use Rattle.emh_base.specs.declared.ids.InstId.{InstId}
use Rattle.edit_rules.proofs.PathLemmas.{up-top, up-more, insts-rise, below}
use Rattle.edit_rules.proofs.spots.module_at.Goals as goal
use Rattle.edit_rules.proofs.spots.module_at.Goals.{in-None, in-Some}

pub loop-step-init : goal.loop-step-init
loop-step-init c = c.module_of-at.ensures ∙ sym (up-top c.args.plain.now c.args.top)

pub master_at-at-requires-clause-insts : goal.master_at-at-requires-clause-insts
master_at-at-requires-clause-insts c =
    insts-rise c.args.plain.now c.args.top _ c.in-Some.holder.now c.requires (ap option_copied (sym c.in-Some.is) ∙ c.loop-step.invariant)

pub loop-step-preserved : goal.loop-step-preserved
loop-step-preserved c =
    let M = c.args.plain.now in
    let first : InstId = record { 0 = 0 } in
    let steps = c.steps-step-items.result.now in
    let step = get_or steps c.loop-step.step-index first in
    let more = sym (up-more M c.args.top steps c.loop-step.step-index first c.loop-step-test.true) in
    elim c.match-at.branch [
      | in-None w ↦
          ap option_copied w.at-is
          ∙ ap (λ holder. below M holder step) (ap option_copied (sym w.in-None.is) ∙ c.loop-step.invariant) ∙ more
      | in-Some w ↦
          ap option_copied w.at-is ∙ w.master_at-at.ensures
          ∙ ap (λ holder. below M holder step) (ap option_copied (sym w.in-Some.is) ∙ c.loop-step.invariant) ∙ more
    ]
