use Rattle.std.proofs.Common.{◌≡◌, ◌++◌, take, length}
use Rattle.std.specs.List.{flat_map}
use Rattle.reports.specs.Modules.{inst_lines}
use Rattle.reports.proofs.modules.push_insts.Given as goal

-- The lines so far stand last.
abbrev pub invariant-loop-inst : goal.invariant-loop-inst
invariant-loop-inst l = record {
  kept : take (length l.initial.out) l.out ≡ l.initial.out;
  text : l.out ≡ l.initial.out ++ flat_map (inst_lines l.plain l.holder) (take l.inst-index l.inst-items);
}
