use Rattle.std.proofs.Common.{List, get_or, flat_map, sym, ◌∙◌}
use Rattle.std.proofs.lemmas.Result.{err_from_is_err_and}
use Rattle.emh_base.specs.declared.plain.Src.TheVariants.{Tie0}
use Rattle.emh_base.specs.declared.plain.Src.{Src}
use Rattle.edit_rules.specs.Check.{Check}
use Rattle.edit_rules.specs.Insts.{source_rules}
use Rattle.edit_rules.proofs.CheckLemmas.{flat_map-kept, flat_map-broken, flat_map-past, looks_err-by}
use Rattle.edit_rules.proofs.judging.connections.sources.Goals as goal

pub returns-in_err-look_source : goal.returns-in_err-look_source
returns-in_err-look_source g c =
    let rules : Src → List Check = source_rules (g.F.Facts.state c.args.facts.now) c.args.id in
    let bits = c.args.bits.now in
    let at = c.loop-source.source-index in
    let more = flat_map-broken rules bits at Tie0 c.loop-source-test.true in
    let p = err_from_is_err_and c.from_residual.result c.from_residual.ensures.1 in
    rw (p.1, p.2)
    (looks_err-by (Unit {0}) (Unit {0}) (rules (get_or bits at Tie0)) (flat_map rules bits)
    (λ r some. sym c.loop-source.invariant ∙ more r some) c.in_err-look_source.field-0.0 c.in_err-look_source.ensures)

pub loop-source-preserved : goal.loop-source-preserved
loop-source-preserved g c =
    flat_map-kept (source_rules (g.F.Facts.state c.args.facts.now) c.args.id) c.args.bits.now c.loop-source.source-index Tie0 c.loop-source-test.true (c.in_ok-look_source.ensures)
    ∙ c.loop-source.invariant

pub returns : goal.returns
returns g c =
    sym c.loop-source.invariant
    ∙ flat_map-past (source_rules (g.F.Facts.state c.args.facts.now) c.args.id) c.args.bits.now c.loop-source.source-index c.loop-source-test.false
