use Rattle.std.proofs.Common.{◌≡◌, ◌≤◌, Bool, List, [], length}
use Rattle.vlog_read.specs.declared.tree.TModule.{TModule}
use Rattle.vlog_read.specs.declared.tree.At.{At}
use Rattle.vlog_read.specs.declared.tree.Header.{Header}
use Rattle.vlog_read.specs.inside.Machine.State.{InItems}
use Rattle.vlog_read.specs.inside.Machine.Step.{read}
use Rattle.vlog_read.specs.inside.Machine.Taken.{inside}
use Rattle.vlog_read.proofs.reader.Reader.items.Given as goal

abbrev pub invariant-loop-self : goal.invariant-loop-self
invariant-loop-self l = record {
  read : (ms : List TModule) (marked : Bool) (n : At) (h : Header)
      → read l.fn.self.len (InItems (inside ms marked n h [])) l.fn.self.rest.now
      ≡ read l.fn.self.len (InItems (inside ms marked n h l.items)) l.self.rest.now;
  shorter : length l.self.rest.now ≤ length l.fn.self.rest.now;
  len : l.self.len ≡ l.fn.self.len;
}

abbrev pub decreases-loop-self : goal.decreases-loop-self
decreases-loop-self l = length l.self.rest.now
