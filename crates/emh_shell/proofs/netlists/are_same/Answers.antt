use Rattle.std.proofs.Common.{arith, sym, ◌∙◌}
use Rattle.emh_shell.proofs.Lines.{same_more, same_bytes}
use Rattle.emh_shell.proofs.netlists.are_same.Goals as goal

pub loop-at-preserved : goal.loop-at-preserved
loop-at-preserved c = record {
  within = omega arith;
  as_many = c.loop-at.invariant.as_many;
  so_far =
      same_more c.args.lines.now c.args.others.now c.loop-at.at c.index-lines-at.result c.index-others-at.result
      (omega arith) (omega (arith, c.loop-at.invariant.as_many)) c.index-lines-at.is c.index-others-at.is
      (sym c.as_slice.ensures ∙ same_bytes c.as_slice.result.now c.as_slice-in-loop-at.result.now c.if-ne.ensures ∙ c.as_slice-in-loop-at.ensures)
      c.loop-at.invariant.so_far;
}
