use Rattle.mod_core.proofs.NewLemmas.{first_kept, first_whole}
use Rattle.mod_core.proofs.mods.Mods.new.Goals as goal

pub invariant_of-result : goal.invariant_of-result
invariant_of-result c =
    first_kept c.new.result c.add-top.result c.new-tops.result c.reserve.new.self c.begin.new.self c.add-top.new.self c.commit.new.self c.forget.new.self
    c.new-tops.ensures c.reserve.ensures.rest c.begin.ensures c.add-top.ensures.added c.commit.ensures.committed c.forget.ensures.forgotten
    c.new-2.result c.new-3.result c.new-4.result c.new-2.ensures c.new-3.ensures c.new-4.ensures

pub returns-clause-table : goal.returns-clause-table
returns-clause-table c =
    first_whole c.new.result c.add-top.result c.new-tops.result c.reserve.new.self c.begin.new.self c.add-top.new.self c.commit.new.self c.forget.new.self
    c.new-tops.ensures c.reserve.ensures.rest c.begin.ensures c.add-top.ensures.added c.commit.ensures.committed c.forget.ensures.forgotten
    c.new-2.result c.new-3.result c.new-4.result c.new-2.ensures c.new-3.ensures c.new-4.ensures
