use Rattle.std.proofs.Common.{ℕ, is_some, List, length, slice_get, sym, ap, ◌∙◌, arith}
use Rattle.std.proofs.lemmas.List.{length_push}
use Rattle.emh_base.specs.declared.plain.PNet.{PNet}
use Rattle.flatten_rules.specs.Lookup.{module_of}
use Rattle.edit_rules.specs.Readers.{net_in, nets_of}
use Rattle.edit_rules.specs.inside.Outline.{bare_net}
use Rattle.edit_rules.proofs.OutlineLemmas.{walked-none, walked-all, none-of, some-map, net-is, net-inside, net-walked, net-next, first-of}
use Rattle.edit_rules.proofs.judging.outline.bare_nets.Goals as goal

pub loop-next-init : goal.loop-next-init
loop-next-init g c =
    let xs = nets_of (module_of (g.F.Facts.state c.args.facts.now).plain c.args.id) in
    rw c.new-nets.ensures (c.net_after-next.ensures ∙ first-of (λ (i : PNet). i.id) xs, walked-none (bare_net c.args.name.now) xs)

pub unwrap-requires : goal.unwrap-requires
unwrap-requires g c =
    let M = (g.F.Facts.state c.args.facts.now).plain in
    let there = net-is M c.requires.sound c.args.id c.args.name.now c.loop-next.nets c.in-Some.net c.loop-next.invariant.1 (sym c.loop-next.invariant.0 ∙ c.in-Some.is) in
    ap is_some c.net_range.ensures ∙ some-map (λ (net : PNet). net.range) (net_in M c.args.id c.in-Some.net) there

pub loop-next-smaller : goal.loop-next-smaller
loop-next-smaller g c =
    let inside = net-inside (g.F.Facts.state c.args.facts.now).plain c.requires.sound c.args.id c.args.name.now c.loop-next.nets c.in-Some.net c.loop-next.invariant.1
    (sym c.loop-next.invariant.0 ∙ c.in-Some.is) in
    let y : PNet = record { id = c.in-Some.net; name = c.in_ok-copy.field-0; range = c.unwrap.result } in
    omega (arith, inside, ap length c.in_ok-push.ensures.ok ∙ length_push c.loop-next.nets y)

pub loop-next-preserved : goal.loop-next-preserved
loop-next-preserved g c =
    let M = (g.F.Facts.state c.args.facts.now).plain in
    let next = sym c.loop-next.invariant.0 ∙ c.in-Some.is in
    let y : PNet = record { id = c.in-Some.net; name = c.in_ok-copy.field-0; range = c.unwrap.result } in
    let made : List ℕ → PNet = λ name. record { id = c.in-Some.net; name = name; range = c.unwrap.result } in
    let ranged = sym c.net_range.ensures ∙ c.unwrap.ensures in (
      c.net_after-next-in-Some.ensures
          ∙ net-next M c.requires.sound c.args.id c.args.name.now c.loop-next.nets c.in-Some.net c.loop-next.invariant.1 next y c.push.new.self c.in_ok-push.ensures.ok,
      net-walked M c.requires.sound c.args.id c.args.name.now c.loop-next.nets c.in-Some.net c.loop-next.invariant.1 next c.unwrap.result y c.push.new.self ranged (ap made c.in_ok-copy.ensures) c.in_ok-push.ensures.ok,
    )

pub returns : goal.returns
returns g c =
    let xs = nets_of (module_of (g.F.Facts.state c.args.facts.now).plain c.args.id) in
    walked-all (bare_net c.args.name.now) xs c.loop-next.nets c.loop-next.invariant.1
    (none-of (λ (i : PNet). i.id) (slice_get xs (length c.loop-next.nets)) (sym c.loop-next.invariant.0 ∙ c.in_default.is))
