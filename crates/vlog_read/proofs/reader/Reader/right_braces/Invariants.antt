use Rattle.std.proofs.Common.{◌≡◌, ◌≤◌, length}
use Rattle.vlog_read.specs.inside.Machine.State.{InConn, AfterExpr}
use Rattle.vlog_read.specs.inside.Machine.Step.{read}
use Rattle.vlog_read.proofs.reader.Reader.right_braces.Given as goal

abbrev pub invariant-loop-depth : goal.invariant-loop-depth
invariant-loop-depth l = record {
  read : (e : InConn) → read l.fn.self.len (AfterExpr e l.fn.depth) l.fn.self.rest.now
      ≡ read l.fn.self.len (AfterExpr e l.depth) l.self.rest.now;
  room : l.depth ≤ l.fn.depth;
  shorter : length l.self.rest.now ≤ length l.fn.self.rest.now;
  len : l.self.len ≡ l.fn.self.len;
}

abbrev pub decreases-loop-depth : goal.decreases-loop-depth
decreases-loop-depth l = l.depth
