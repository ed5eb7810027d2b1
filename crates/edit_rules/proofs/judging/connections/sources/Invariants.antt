-- No rule of the sources so far is broken, so the first broken one is the first of the others.
use Rattle.std.proofs.Common.{◌≡◌, drop}
use Rattle.std.specs.List.{flat_map}
use Rattle.flatten_rules.specs.Check.{first_broken}
use Rattle.edit_rules.specs.Insts.{source_rules}
use Rattle.edit_rules.proofs.judging.connections.sources.Given as goal

abbrev pub invariant-loop-source : goal.invariant-loop-source
invariant-loop-source g l =
    first_broken (flat_map (source_rules (g.F.Facts.state l.facts) l.fn.id) (drop l.source-index l.bits))
    ≡ first_broken (flat_map (source_rules (g.F.Facts.state l.facts) l.fn.id) l.bits)
