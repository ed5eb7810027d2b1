use Rattle.std.proofs.Common.{ℕ, ◌<◌, get_or}
use Rattle.emh_base.specs.declared.plain.PModule.{PModule}
use Rattle.vlog_write.specs.Law.{IsNamed}
use Rattle.vlog_write.proofs.law.are_named.Given as goal

abbrev pub invariant-loop-holder : goal.invariant-loop-holder
invariant-loop-holder l = (k : ℕ) (d : PModule) → k < l.holder-index → IsNamed (get_or l.holders k d)
