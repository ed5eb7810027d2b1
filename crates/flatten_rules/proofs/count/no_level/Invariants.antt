-- There is a number for each module so far.
use Rattle.std.proofs.Common.{◌≡◌, map, take}
use Rattle.emh_base.specs.declared.plain.PModule.{PModule}
use Rattle.flatten_rules.proofs.count.no_level.Given as goal

abbrev pub invariant-loop-holder : goal.invariant-loop-holder
invariant-loop-holder l = l.made ≡ map (λ (m : PModule). 0) (take l.holder-index l.holder-items)
