use Rattle.std.proofs.Common.{◌≡◌, ◌++◌, take}
use Rattle.script_read.specs.inside.Line.{bits_text}
use Rattle.script_read.proofs.put.put_bits.Given as goal

abbrev pub invariant-loop-bit : goal.invariant-loop-bit
invariant-loop-bit l = l.line ≡ l.initial.line ++ bits_text (take l.bit-index l.bits)
