use Rattle.std.proofs.Common.{◌∙◌, not, ap, sym}
use Rattle.std.proofs.lemmas.Bool.{not-false}
use Rattle.flatten_rules.proofs.Cycling.{no_cycle-from_none, none-from_no_cycle}
use Rattle.flatten_rules.proofs.soundness.is_sound.Goals as goal

pub are_sound-requires-clause-nets : goal.are_sound-requires-clause-nets
are_sound-requires-clause-nets c = c.have_nets.ensures.0 c.if-not-have_nets.false

pub first_on_cycle-requires-clause-insts : goal.first_on_cycle-requires-clause-insts
first_on_cycle-requires-clause-insts c = λ k d within. (c.in_ok-are_sound.ensures.0 c.if-not-branch-2.false k d within).insts_rise

pub returns : goal.returns
returns c =
    let M = c.args.plain.now in
    let first = c.in_ok-first_on_cycle.field-0 in
    let rises = rw c.as_slice.ensures at (c.rises.ensures.rises.0 c.if-not-rises.false) in (
      λ none. record {
        names = c.in_ok-modules_have_own_names.ensures.0 c.if-not-branch.false;
        rise = rises.0;
        below = rises.1;
        counter = c.rises.ensures.counter;
        modules = c.in_ok-are_sound.ensures.0 c.if-not-branch-2.false;
        no_cycle = no_cycle-from_none M first c.in_ok-first_on_cycle.ensures (c.is_none.ensures ∙ ap not none);
      },
      λ sound. not-false c.is_none.result (sym c.is_none.ensures ∙ none-from_no_cycle M first c.in_ok-first_on_cycle.ensures sound.no_cycle),
    )
