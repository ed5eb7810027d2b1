use Rattle.std.proofs.Common.{◌≡◌, ◌++◌, take, length}
use Rattle.std.specs.List.{flat_map}
use Rattle.reports.specs.Modules.{module_lines}
use Rattle.reports.proofs.modules.push_modules.Given as goal

-- The lines so far stand last.
abbrev pub invariant-loop-holder : goal.invariant-loop-holder
invariant-loop-holder l = record {
  kept : take (length l.initial.out) l.out ≡ l.initial.out;
  text : l.out ≡ l.initial.out ++ flat_map (module_lines l.plain) (take l.holder-index l.holder-items);
}
