use Rattle.std.proofs.Common.{arith}
use Rattle.edit_rules.proofs.TableLemmas.{sound-found}
use Rattle.watch_kit.proofs.Fitting.{few-names}
use Rattle.watch_kit.proofs.reading.name_count.Goals as goal

pub overflow_add-result : goal.overflow_add-result
overflow_add-result c =
    let M = c.args.plain.now in
    let h = c.in-Some.holder.now in
    omega (arith, c.len.ensures, c.len-in-Some.ensures, few-names M h (sound-found M c.args.id h c.requires c.in-Some.ensures))

pub returns-in-Some-clause-few : goal.returns-in-Some-clause-few
returns-in-Some-clause-few c =
    let M = c.args.plain.now in
    let h = c.in-Some.holder.now in
    omega (arith, c.len.ensures, c.len-in-Some.ensures, few-names M h (sound-found M c.args.id h c.requires c.in-Some.ensures))
