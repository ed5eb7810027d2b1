use Rattle.std.proofs.Common.{◌≡◌, ◌≤◌, [], length}
use Rattle.vlog_read.specs.declared.tree.At.{At}
use Rattle.vlog_read.specs.inside.Machine.State.{SoFar, ForHeader, AfterDir, AfterDeclName}
use Rattle.vlog_read.specs.inside.Machine.Step.{read}
use Rattle.vlog_read.proofs.reader.Reader.port_decls.Given as goal

abbrev pub invariant-loop-self : goal.invariant-loop-self
invariant-loop-self l = record {
  read : (s : SoFar) (n : At) → read l.fn.self.len (AfterDir (ForHeader s n []) l.fn.dir) l.fn.self.rest.now
      ≡ read l.fn.self.len (AfterDeclName (ForHeader s n l.decls) l.decl) l.self.rest.now;
  shorter : length l.self.rest.now ≤ length l.fn.self.rest.now;
  len : l.self.len ≡ l.fn.self.len;
}

abbrev pub decreases-loop-self : goal.decreases-loop-self
decreases-loop-self l = length l.self.rest.now
