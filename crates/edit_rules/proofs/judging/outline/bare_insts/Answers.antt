use Rattle.std.proofs.Common.{ℕ, List, length, slice_get, sym, ap, ◌∙◌, arith}
use Rattle.std.proofs.lemmas.List.{length_push}
use Rattle.emh_base.specs.declared.ids.ModId.{ModId}
use Rattle.emh_base.specs.declared.plain.Conn.{Conn}
use Rattle.emh_base.specs.declared.plain.PInst.{PInst}
use Rattle.flatten_rules.specs.Lookup.{module_of, insts_of}
use Rattle.edit_rules.specs.inside.Outline.{bare_inst}
use Rattle.edit_rules.proofs.OutlineLemmas.{walked-none, walked-all, none-of, inst-is, inst-inside, inst-walked, inst-next, first-of}
use Rattle.edit_rules.proofs.judging.outline.bare_insts.Goals as goal

pub loop-next-init : goal.loop-next-init
loop-next-init g c =
    let xs = insts_of (module_of (g.F.Facts.state c.args.facts.now).plain c.args.id) in
    rw c.new-insts.ensures (c.inst_after-next.ensures ∙ first-of (λ (i : PInst). i.id) xs, walked-none (bare_inst c.args.name.now) xs)

pub master_of-requires-clause-there : goal.master_of-requires-clause-there
master_of-requires-clause-there g c =
    inst-is (g.F.Facts.state c.args.facts.now).plain c.requires.sound c.args.id c.args.name.now c.loop-next.insts c.in-Some.inst c.loop-next.invariant.1
    (sym c.loop-next.invariant.0 ∙ c.in-Some.is)

pub loop-next-smaller : goal.loop-next-smaller
loop-next-smaller g c =
    let inside = inst-inside (g.F.Facts.state c.args.facts.now).plain c.requires.sound c.args.id c.args.name.now c.loop-next.insts c.in-Some.inst c.loop-next.invariant.1
    (sym c.loop-next.invariant.0 ∙ c.in-Some.is) in
    let y : PInst = record { id = c.in-Some.inst; name = c.in_ok-copy.field-0; master = c.master_of.result; conns = c.new.result } in
    omega (arith, inside, ap length c.in_ok-push.ensures.ok ∙ length_push c.loop-next.insts y)

pub loop-next-preserved : goal.loop-next-preserved
loop-next-preserved g c =
    let M = (g.F.Facts.state c.args.facts.now).plain in
    let next = sym c.loop-next.invariant.0 ∙ c.in-Some.is in
    let y : PInst = record { id = c.in-Some.inst; name = c.in_ok-copy.field-0; master = c.master_of.result; conns = c.new.result } in
    let made : List ℕ → ModId → List Conn → PInst = λ name master conns. record { id = c.in-Some.inst; name = name; master = master; conns = conns } in
    let is = ap (λ name. made name c.master_of.result c.new.result) c.in_ok-copy.ensures
    ∙ ap (λ master. made c.args.name.now master c.new.result) c.master_of.ensures.is
    ∙ ap (made c.args.name.now _) c.new.ensures in (
      c.inst_after-next-in-Some.ensures
          ∙ inst-next M c.requires.sound c.args.id c.args.name.now c.loop-next.insts c.in-Some.inst c.loop-next.invariant.1 next y c.push.new.self c.in_ok-push.ensures.ok,
      inst-walked M c.requires.sound c.args.id c.args.name.now c.loop-next.insts c.in-Some.inst c.loop-next.invariant.1 next y c.push.new.self is c.in_ok-push.ensures.ok,
    )

pub returns : goal.returns
returns g c =
    let xs = insts_of (module_of (g.F.Facts.state c.args.facts.now).plain c.args.id) in
    walked-all (bare_inst c.args.name.now) xs c.loop-next.insts c.loop-next.invariant.1
    (none-of (λ (i : PInst). i.id) (slice_get xs (length c.loop-next.insts)) (sym c.loop-next.invariant.0 ∙ c.in_default.is))
