use Rattle.std.proofs.Common.{◌==◌, arith}
use Rattle.std.proofs.lemmas.List.Sums.{count_by-le-length}
use Rattle.emh_base.specs.declared.plain.PInst.{PInst}
use Rattle.edit_rules.proofs.FactsLemmas.{length-below}
use Rattle.edit_rules.proofs.reading.users_in.Goals as goal

pub returns-clause-few : goal.returns-clause-few
returns-clause-few c =
    omega (arith, c.count_users.ensures, count_by-le-length (λ (inst : PInst). inst.master.0 == c.args.id.0) c.args.insts.now, length-below (λ (inst : PInst). inst.id.0) c.args.insts.now c.args.counter c.requires.rise c.requires.below, c.ranges.counter.fits)
