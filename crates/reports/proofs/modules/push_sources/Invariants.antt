use Rattle.std.proofs.Common.{◌≡◌, ◌++◌, take, length}
use Rattle.std.specs.List.{flat_map}
use Rattle.reports.specs.Modules.{source_word}
use Rattle.reports.specs.inside.Spaced.{spaced}
use Rattle.reports.proofs.modules.push_sources.Given as goal

-- The lines so far stand last.
abbrev pub invariant-loop-bit : goal.invariant-loop-bit
invariant-loop-bit l = record {
  kept : take (length l.initial.out) l.out ≡ l.initial.out;
  text : l.out ≡ l.initial.out ++ flat_map (λ bit. spaced (source_word l.holder bit)) (take l.bit-index l.bit-items);
}
