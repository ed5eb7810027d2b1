-- The users in the modules so far are counted, and are few.
use Rattle.std.proofs.Common.{◌≡◌, ◌==◌, ◌≤◌, ◌*◌, take, sum_by, count_by}
use Rattle.emh_base.specs.declared.plain.PInst.{PInst}
use Rattle.emh_base.specs.declared.plain.PModule.{PModule}
use Rattle.edit_rules.proofs.reading.users.Given as goal

abbrev pub invariant-loop-holder : goal.invariant-loop-holder
invariant-loop-holder l =
    (l.found ≡ sum_by (λ (holder : PModule). count_by (λ (inst : PInst). inst.master.0 == l.id.0) holder.insts) (take l.holder-index l.holder-items))
    × (l.found ≤ l.holder-index * 4294967295)
