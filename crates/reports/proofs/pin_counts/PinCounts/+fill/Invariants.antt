use Rattle.std.proofs.Common.{◌+◌, ◌*◌, take}
use Rattle.reports.specs.inside.PinCounts.{AreCounted, AreCountedSo}
use Rattle.reports.proofs.pin_counts.PinCounts.+fill.Given as goal

-- A module is counted by its master's numbers, which are counted a level further down.
abbrev pub decreases-fill : goal.decreases-fill
decreases-fill l = 3 * l.levels + 2

abbrev pub decreases-count : goal.decreases-count
decreases-count l = 3 * l.levels + 1

abbrev pub decreases-add_below : goal.decreases-add_below
decreases-add_below l = 3 * l.levels + 3

-- The pins of the module itself and those below the instances so far are counted.
abbrev pub invariant-count-loop-inst : goal.invariant-count-loop-inst
invariant-count-loop-inst l = record {
  counted : AreCounted l.fn.plain l.self.modules.items;
  made : AreCountedSo l.fn.plain l.fn.holder (take l.inst-index l.inst-items) l.made.counts.entries;
}
