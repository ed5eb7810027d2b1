use Rattle.std.proofs.Common.{arith}
use Rattle.script_read.proofs.BitRuns.{run_more}
use Rattle.script_read.proofs.sources.push_bits.Goals as goal

pub loop-offset-preserved : goal.loop-offset-preserved
loop-offset-preserved c = record {
  from = omega (arith, c.loop-offset.invariant.from);
  bits = rw c.in_ok-push.ensures.ok (run_more c.args.found.now c.loop-offset.found c.args.net c.args.run.0 c.loop-offset.offset c.loop-offset.invariant.from c.loop-offset.invariant.bits);
}
