use Rattle.std.proofs.Common.{ap, sym, ◌∙◌}
use Rattle.std.specs.Option.{option_copied}
use Rattle.edit_rules.proofs.LimitLemmas.{good-top}
use Rattle.edit_rules.proofs.opening.fit.Goals as goal

pub returns-in_ok-look_top-in-Some-clause-good : goal.returns-in_ok-look_top-in-Some-clause-good
returns-in_ok-look_top-in-Some-clause-good c =
    good-top c.args.plain.now c.as_bytes.result.now c.in-Some.holder.now c.requires (sym (ap option_copied (sym c.in-Some.is) ∙ c.module_named.ensures)) c.in_ok-look_top-in-Some.ensures
