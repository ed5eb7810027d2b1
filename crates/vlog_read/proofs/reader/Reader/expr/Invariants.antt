use Rattle.std.proofs.Common.{◌≡◌, ℕ, ◌+◌, ◌≤◌, [], Option, length}
use Rattle.vlog_read.specs.declared.tree.At.{At}
use Rattle.vlog_read.specs.inside.Machine.State.{InInst, NextExpr, expr_of}
use Rattle.vlog_read.specs.inside.Machine.Step.{read}
use Rattle.vlog_read.proofs.reader.Reader.expr.Given as goal

abbrev pub invariant-loop-parts : goal.invariant-loop-parts
invariant-loop-parts l = record {
  read : (i : InInst) (at : ℕ) (port : Option At) (expr_at : ℕ)
      → read l.fn.self.len (NextExpr (expr_of i at port expr_at []) 0) l.fn.self.rest.now
      ≡ read l.fn.self.len (NextExpr (expr_of i at port expr_at l.parts) l.depth) l.self.rest.now;
  room : l.depth + length l.self.rest.now ≤ length l.fn.self.rest.now;
  len : l.self.len ≡ l.fn.self.len;
}

abbrev pub decreases-loop-parts : goal.decreases-loop-parts
decreases-loop-parts l = length l.self.rest.now
