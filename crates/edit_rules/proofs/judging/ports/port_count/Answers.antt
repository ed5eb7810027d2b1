use Rattle.std.proofs.Common.{ap, arith}
use Rattle.emh_base.specs.declared.plain.Counters.{Counters}
use Rattle.edit_rules.proofs.ReadLemmas.{ports-few}
use Rattle.edit_rules.proofs.judging.ports.port_count.Goals as goal

pub returns : goal.returns
returns g c =
    omega (arith, ap (λ (n : Counters). n.next_net) c.counters-most.ensures, ports-few (g.F.Facts.state c.args.facts.now).plain c.args.id c.requires.sound, c.loop-place.invariant, c.loop-place-test.false, c.loop-place.auto.place-end)
