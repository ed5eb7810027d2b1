-- The steps so far stand in front of those that the other names lead to, from the module that they lead to.
use Rattle.std.proofs.Common.{◌≡◌, ◌++◌, drop, IsTrue}
use Rattle.std.specs.Prelude.{option_map}
use Rattle.edit_rules.specs.Readers.{is_module}
use Rattle.script_read.specs.Resolve.{path_named}
use Rattle.script_read.proofs.look.path_named.Given as goal

abbrev pub invariant-loop-name : goal.invariant-loop-name
invariant-loop-name g l = record {
  live : IsTrue (is_module (g.F.Facts.state l.facts).plain l.module);
  rest : option_map (λ path. l.path ++ path) (path_named (g.F.Facts.state l.facts) l.module (drop l.name-index l.names))
      ≡ path_named (g.F.Facts.state l.facts) (g.F.Facts.state l.facts).top l.names;
}
