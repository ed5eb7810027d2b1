use Rattle.std.proofs.Common.{◌≡◌, ◌≤◌, [], length}
use Rattle.vlog_read.specs.declared.tree.At.{At}
use Rattle.vlog_read.specs.inside.Machine.State.{InInsts, FirstConn, NextConn, inst_of}
use Rattle.vlog_read.specs.inside.Machine.Step.{read}
use Rattle.vlog_read.proofs.reader.Reader.conns.Given as goal

abbrev pub invariant-loop-conns : goal.invariant-loop-conns
invariant-loop-conns l = record {
  read : (g : InInsts) (n : At) → read l.fn.self.len (FirstConn (inst_of g n [])) l.fn.self.rest.now
      ≡ read l.fn.self.len (NextConn (inst_of g n l.conns)) l.self.rest.now;
  shorter : length l.self.rest.now ≤ length l.fn.self.rest.now;
  len : l.self.len ≡ l.fn.self.len;
}

abbrev pub decreases-loop-conns : goal.decreases-loop-conns
decreases-loop-conns l = length l.self.rest.now
