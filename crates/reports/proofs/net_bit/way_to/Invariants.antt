use Rattle.std.proofs.Common.{◌≡◌, take}
use Rattle.reports.proofs.net_bit.way_to.Given as goal

-- The way so far goes along the steps so far.
abbrev pub invariant-loop-step : goal.invariant-loop-step
invariant-loop-step l = l.way ≡ record { plain = l.fn.plain; top = l.fn.top; path = take l.step-index l.step-items }
