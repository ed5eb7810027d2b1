-- The bits so far are those of the offsets before this one.
use Rattle.std.proofs.Common.{◌≡◌, ◌++◌, ◌-◌, ◌≤◌, map}
use Rattle.std.specs.List.{range_with_len}
use Rattle.emh_base.specs.declared.plain.Src.TheVariants.{Bit}
use Rattle.script_read.proofs.sources.push_bits.Given as goal

abbrev pub invariant-loop-offset : goal.invariant-loop-offset
invariant-loop-offset l = record {
  from : l.fn.run.0 ≤ l.offset;
  bits : l.found ≡ l.initial.found ++ map (λ offset. Bit l.net offset) (range_with_len l.fn.run.0 (l.offset - l.fn.run.0));
}
