use Rattle.edit_rules.proofs.TableLemmas.{sound-found}
use Rattle.watch_kit.proofs.Fitting.{all-fit}
use Rattle.watch_kit.proofs.reading.insts_of.Goals as goal

pub returns-in-Some-clause-fit : goal.returns-in-Some-clause-fit
returns-in-Some-clause-fit c =
    let M = c.args.plain.now in
    let h = c.in-Some.holder.now in
    rw c.as_slice.ensures (all-fit M h (sound-found M c.args.id h c.requires c.in-Some.ensures))
