use Rattle.std.proofs.Common.{◌≡◌, ◌≤◌, [], length}
use Rattle.vlog_read.specs.declared.tree.At.{At}
use Rattle.vlog_read.specs.inside.Machine.State.{InModule, InstName, insts_of}
use Rattle.vlog_read.specs.inside.Machine.Step.{read}
use Rattle.vlog_read.proofs.reader.Reader.insts.Given as goal

abbrev pub invariant-loop-insts : goal.invariant-loop-insts
invariant-loop-insts l = record {
  read : (m : InModule) (master : At) → read l.fn.self.len (InstName (insts_of m master [])) l.fn.self.rest.now
      ≡ read l.fn.self.len (InstName (insts_of m master l.insts)) l.self.rest.now;
  shorter : length l.self.rest.now ≤ length l.fn.self.rest.now;
  len : l.self.len ≡ l.fn.self.len;
}

abbrev pub decreases-loop-insts : goal.decreases-loop-insts
decreases-loop-insts l = length l.self.rest.now
