use Rattle.std.proofs.Common.{◌≡◌, ◌+◌, ◌*◌, nat_lt, ap, ap₂, ◌∙◌}
use Rattle.flatten_rules.specs.Lookup.{width}
use Rattle.edit_rules.specs.declared.facts.Totals.{Totals}
use Rattle.edit_rules.specs.Facts.{totals, times}
use Rattle.edit_rules.proofs.MoreLemmas.{net-more, port-more}
use Rattle.edit_rules.proofs.judging.nets.makes_too_many_bits.Goals as goal

pub returns-clause-net : goal.returns-clause-net
returns-clause-net g c =
    let S = g.F.Facts.state c.args.facts.now in
    let more : c.times_over-more.result ≡ width c.args.range * times S c.args.id = c.times_over-more.ensures.value ∙ ap₂ (λ w n. w * n) c.width_of.ensures.value c.times.ensures in
    let all : c.totals.result.bits + c.times_over-more.result ≡ (totals S).bits + width c.args.range * times S c.args.id = ap₂ (λ (t : Totals) n. t.bits + n) c.totals.ensures more in
    λ name. ap (nat_lt 4000000) all ∙ net-more S c.args.id c.args.range c.requires.live c.requires.inner name

pub returns-clause-port : goal.returns-clause-port
returns-clause-port g c =
    let S = g.F.Facts.state c.args.facts.now in
    let more : c.times_over-more.result ≡ width c.args.range * times S c.args.id = c.times_over-more.ensures.value ∙ ap₂ (λ w n. w * n) c.width_of.ensures.value c.times.ensures in
    let all : c.totals.result.bits + c.times_over-more.result ≡ (totals S).bits + width c.args.range * times S c.args.id = ap₂ (λ (t : Totals) n. t.bits + n) c.totals.ensures more in
    λ name dir. ap (nat_lt 4000000) all ∙ port-more S c.args.id c.args.range c.requires.live c.requires.inner name dir
