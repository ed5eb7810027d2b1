use Rattle.std.proofs.Common.{not, rules, tests}
use Rattle.std.proofs.lemmas.Iterator.{YieldsList-from_slice}
use Rattle.std.proofs.lemmas.Iterator.Consumers.{YieldsList-from_filter, count_from_yields_List}
use Rattle.emh_base.specs.declared.plain.PModule.{PModule}
use Rattle.gen_design.proofs.turns.inner_count.Goals as goal

pub returns : goal.returns
returns c =
    count_from_yields_List c.filter.result c.count.result c.count.ensures.ran
    (YieldsList-from_filter _ (λ (m : PModule). not m.leaf) (YieldsList-from_slice c.args.plain.now.modules cc) c.filter.ensures.closure (λ x b q k. search (rules, tests)))
