use Rattle.std.proofs.Common.{◌-◌, length}
use Rattle.vlog_lex.specs.Attribute.{Through, StringPart}
use Rattle.vlog_lex.proofs.attribute.string_end.Given as goal

abbrev pub invariant-loop-at : goal.invariant-loop-at
invariant-loop-at l = Through (StringPart l.bytes) l.start l.at

abbrev pub decreases-loop-at : goal.decreases-loop-at
decreases-loop-at l = length l.bytes - l.at
