use Rattle.std.proofs.Common.{arith, refl}
use Rattle.vlog_elab.proofs.Sourcing.{past_bits}
use Rattle.vlog_elab.proofs.bits.tie_of.Goals as goal

pub returns-then-place-ge128 : goal.returns-then-place-ge128
returns-then-place-ge128 c = rw (past_bits c.args.value c.args.place (omega arith) (omega arith)) refl
