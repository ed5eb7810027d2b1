use Rattle.std.proofs.Common.{◌≡◌, ◌≤◌, Bool, Option, length}
use Rattle.emh_base.specs.declared.plain.Dir.{Dir}
use Rattle.vlog_read.specs.declared.tree.At.{At}
use Rattle.vlog_read.specs.declared.tree.Span.{Span}
use Rattle.vlog_read.specs.inside.Machine.State.{InModule, SoFar, ForItem, AfterHeaderName, AfterDeclName, decl_of}
use Rattle.vlog_read.specs.inside.Machine.Step.{read}
use Rattle.vlog_read.proofs.reader.Reader.more_names.Given as goal

abbrev pub invariant-loop-self : goal.invariant-loop-self
invariant-loop-self l = record {
  header : (s : SoFar) (n : At) → read l.fn.self.len (AfterHeaderName s n l.fn.names) l.fn.self.rest.now
      ≡ read l.fn.self.len (AfterHeaderName s n l.names) l.self.rest.now;
  item : (m : InModule) (d : Option Dir) (wire : Bool) (r : Option Span)
      → read l.fn.self.len (AfterDeclName (ForItem m) (decl_of d wire r l.fn.names)) l.fn.self.rest.now
      ≡ read l.fn.self.len (AfterDeclName (ForItem m) (decl_of d wire r l.names)) l.self.rest.now;
  shorter : length l.self.rest.now ≤ length l.fn.self.rest.now;
  len : l.self.len ≡ l.fn.self.len;
}

abbrev pub decreases-loop-self : goal.decreases-loop-self
decreases-loop-self l = length l.self.rest.now
