use Rattle.std.proofs.Common.{◌-◌, length}
use Rattle.vlog_lex.proofs.Readings.{ReadTo}
use Rattle.vlog_lex.proofs.lexer.read.Given as goal

abbrev pub invariant-loop-at : goal.invariant-loop-at
invariant-loop-at l = ReadTo l.bytes l.items l.at

abbrev pub decreases-loop-at : goal.decreases-loop-at
decreases-loop-at l = length l.bytes - l.at
