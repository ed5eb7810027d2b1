-- The module is that at the steps so far.
use Rattle.std.proofs.Common.{◌≡◌, reverse, take}
use Rattle.std.specs.Option.{option_copied}
use Rattle.flatten_rules.specs.Unfolding.{module_up}
use Rattle.edit_rules.proofs.spots.module_at.Given as goal

abbrev pub invariant-loop-step : goal.invariant-loop-step
invariant-loop-step l = option_copied l.at ≡ module_up l.plain l.fn.top (reverse (take l.step-index l.step-items))
