use Rattle.std.proofs.Common.{◌≡◌, length}
use Rattle.vlog_read.specs.inside.Machine.State.{Top}
use Rattle.vlog_read.specs.inside.Machine.Step.{read, start}
use Rattle.vlog_read.specs.inside.Machine.Taken.{so_far}
use Rattle.vlog_read.proofs.reader.Reader.modules.Given as goal

abbrev pub invariant-loop-self : goal.invariant-loop-self
invariant-loop-self l = record {
  read : read l.fn.self.len start l.fn.self.rest.now
      ≡ read l.fn.self.len (Top (so_far l.modules l.marked)) l.self.rest.now;
  len : l.self.len ≡ l.fn.self.len;
}

abbrev pub decreases-loop-self : goal.decreases-loop-self
decreases-loop-self l = length l.self.rest.now
