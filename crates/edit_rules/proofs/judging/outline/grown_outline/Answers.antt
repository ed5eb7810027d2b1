use Rattle.std.proofs.Common.{List, length, slice_get, sym, ap, ◌∙◌, arith}
use Rattle.std.proofs.lemmas.List.{length_push}
use Rattle.emh_base.specs.declared.plain.PModule.{PModule}
use Rattle.emh_base.specs.declared.plain.Plain.{Plain}
use Rattle.edit_rules.specs.inside.Outline.{grown}
use Rattle.edit_rules.proofs.OutlineLemmas.{walked-none, walked-all, none-of, module-is, module-inside, module-walked, module-next, first-of}
use Rattle.edit_rules.proofs.judging.outline.grown_outline.Goals as goal

pub loop-next-init : goal.loop-next-init
loop-next-init g c =
    let xs = (g.F.Facts.state c.args.facts.now).plain.modules in
    rw c.new-modules.ensures (c.module_after-next.ensures ∙ first-of (λ (m : PModule). m.id) xs, walked-none (grown c.args.name.now c.args.id c.args.master) xs)

pub grown-requires-clause-live : goal.grown-requires-clause-live
grown-requires-clause-live g c =
    module-is (g.F.Facts.state c.args.facts.now).plain c.requires (grown c.args.name.now c.args.id c.args.master) c.loop-next.modules c.in-Some.here c.loop-next.invariant.1
    (sym c.loop-next.invariant.0 ∙ c.in-Some.is)

pub loop-next-smaller : goal.loop-next-smaller
loop-next-smaller g c =
    let inside = module-inside (g.F.Facts.state c.args.facts.now).plain c.requires (grown c.args.name.now c.args.id c.args.master) c.loop-next.modules c.in-Some.here c.loop-next.invariant.1
    (sym c.loop-next.invariant.0 ∙ c.in-Some.is) in
    omega (arith, inside, ap length c.in_ok-push.ensures.ok ∙ length_push c.loop-next.modules c.in_ok-grown.field-0)

pub loop-next-preserved : goal.loop-next-preserved
loop-next-preserved g c =
    let M = (g.F.Facts.state c.args.facts.now).plain in
    let next = sym c.loop-next.invariant.0 ∙ c.in-Some.is in
    let y : PModule = c.in_ok-grown.field-0 in (
      c.module_after-next-in-Some.ensures
          ∙ module-next M c.requires (grown c.args.name.now c.args.id c.args.master) c.loop-next.modules c.in-Some.here c.loop-next.invariant.1 next y c.push.new.self c.in_ok-push.ensures.ok,
      module-walked M c.requires (grown c.args.name.now c.args.id c.args.master) c.loop-next.modules c.in-Some.here c.loop-next.invariant.1 next y c.push.new.self c.in_ok-grown.ensures c.in_ok-push.ensures.ok,
    )

pub returns : goal.returns
returns g c =
    let xs = (g.F.Facts.state c.args.facts.now).plain.modules in
    let made : List PModule → Plain = λ modules. record { modules = modules; next_module = 0 } in
    ap made
    (walked-all (grown c.args.name.now c.args.id c.args.master) xs c.loop-next.modules c.loop-next.invariant.1
    (none-of (λ (m : PModule). m.id) (slice_get xs (length c.loop-next.modules)) (sym c.loop-next.invariant.0 ∙ c.in_default.is)))
