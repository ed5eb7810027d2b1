use Rattle.emh_base.specs.declared.edit.By.TheVariants.{User}
use Rattle.edit_rules.proofs.GoodLaw.{answers-good}
use Rattle.edit_rules.proofs.apply.apply_plain.Goals as goal

pub returns-clause-good : goal.returns-clause-good
returns-clause-good c = answers-good _ _ User c.args.edit.now _ c.requires c.apply_judged.ensures
