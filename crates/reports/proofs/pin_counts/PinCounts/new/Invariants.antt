use Rattle.std.proofs.Common.{◌≡◌, None, All, length}
use Rattle.reports.proofs.pin_counts.PinCounts.new.Given as goal

-- No module so far is counted.
abbrev pub invariant-loop-place : goal.invariant-loop-place
invariant-loop-place l = record {
  many : length l.modules.items ≡ l._place;
  none : All (λ found. found ≡ None) l.modules.items;
}
