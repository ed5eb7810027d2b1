use Rattle.std.proofs.Common.{ap, length, arith}
use Rattle.emh_base.specs.declared.plain.PModule.{PModule}
use Rattle.edit_rules.proofs.FactsLemmas.{length-below}
use Rattle.edit_rules.proofs.reading.users.Goals as goal

pub overflow_add-found : goal.overflow_add-found
overflow_add-found c =
    let few = length-below (λ (m : PModule). m.id.0) c.args.plain.now.modules c.args.plain.now.next_module c.requires.sound.rise c.requires.sound.below in
    omega (arith, c.loop-holder.invariant.1, c.users_in-found.ensures.few, c.loop-holder-test.true, ap length c.as_slice-holder-items.ensures, few, c.requires.counter, c.ranges.counter.fits)
