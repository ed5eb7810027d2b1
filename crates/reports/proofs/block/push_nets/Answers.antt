use Rattle.std.proofs.Common.{◌≡◌, [], ◌++◌, cond, length, reverse, sym, ap, subst, ◌∙◌, arith}
use Rattle.std.specs.List.{flat_map, filter}
use Rattle.std.proofs.lemmas.List.{take_all}
use Rattle.emh_base.specs.declared.ids.ModId.{ModId}
use Rattle.emh_base.specs.declared.plain.Plain.{Plain}
use Rattle.flatten_rules.specs.Unfolding.{module_up}
use Rattle.flatten_rules.specs.Root.{root_up}
use Rattle.flatten_rules.specs.Domains.{NetBit, is_leaf, is_own, root_of}
use Rattle.flatten_rules.specs.Way.{WayTo}
use Rattle.flatten_rules.specs.Walking.{BitWalking}
use Rattle.reports.specs.Block.{net_line}
use Rattle.reports.specs.inside.PinCounts.{AreCounted}
use Rattle.reports.proofs.Along.{AreInner, inner-bits, inner-head, inner-tail}
use Rattle.reports.proofs.Kept.{kept_more, kept_text, more_kept}
use Rattle.reports.proofs.block.push_nets.Goals as goal

pub loop-bits-init : goal.loop-bits-init
loop-bits-init c =
    let M = c.args.plain.now in
    let top = c.args.top in
    let out = c.args.out.now in
    let rest = ap (λ (b : BitWalking). b.rest) c.in_ok-bits.ensures in
    record {
      plain = ap (λ (b : BitWalking). b.plain) c.in_ok-bits.ensures;
      top = ap (λ (b : BitWalking). b.top) c.in_ok-bits.ensures;
      inner = subst (AreInner M top) (sym rest) (inner-bits M top c.requires.sound c.requires.within.depth);
      counted = c.in_ok-counts.ensures;
      kept = take_all (length out) out (omega arith);
      text = ap (λ bits. out ++ flat_map (net_line M top) (filter (λ (bit : NetBit). is_own bit (root_of M top bit)) bits)) rest;
    }

pub push_if_own-requires-clause-inner : goal.push_if_own-requires-clause-inner
push_if_own-requires-clause-inner c =
    let M = c.args.plain.now in
    let top = c.args.top in
    let before = c.loop-bits.bits in
    let after = c.next.new.self in
    let bit : NetBit = record { path = after.path; net = c.in-Some.net.now.id; offset = c.in-Some.offset } in
    let step = rw c.in-Some.is at c.in_ok-net.ensures.next in
    let plain : after.plain ≡ M = c.in_ok-net.ensures.plain ∙ c.loop-bits.invariant.plain in
    let is_top : after.top ≡ top = c.in_ok-net.ensures.top ∙ c.loop-bits.invariant.top in
    ap (λ (w : WayTo). is_leaf (module_up w.plain w.top (reverse w.path))) c.way.ensures
    ∙ ap (λ (P : Plain). is_leaf (module_up P after.top (reverse after.path))) plain
    ∙ ap (λ (t : ModId). is_leaf (module_up M t (reverse after.path))) is_top
    ∙ inner-head M top before.rest after.rest bit c.loop-bits.invariant.inner step.next

pub loop-bits-preserved : goal.loop-bits-preserved
loop-bits-preserved c =
    let M = c.args.plain.now in
    let top = c.args.top in
    let before = c.loop-bits.bits in
    let after = c.next.new.self in
    let net = c.in-Some.net.now.id in
    let offset = c.in-Some.offset in
    let bit : NetBit = record { path = after.path; net = net; offset = offset } in
    let step = rw c.in-Some.is at c.in_ok-net.ensures.next in
    let plain : after.plain ≡ M = c.in_ok-net.ensures.plain ∙ c.loop-bits.invariant.plain in
    let is_top : after.top ≡ top = c.in_ok-net.ensures.top ∙ c.loop-bits.invariant.top in
    let line : c.push_if_own.new.out ≡ c.loop-bits.out ++ cond (is_own bit (root_of M top bit)) (net_line M top bit) [] =
    c.in_ok-push_if_own.ensures.ok
    ∙ ap (λ (w : WayTo). c.loop-bits.out ++ cond (is_own (record { path = w.path; net = net; offset = offset }) (root_up w.plain w.top (reverse w.path) net offset)) (net_line w.plain w.top (record { path = w.path; net = net; offset = offset })) []) c.way.ensures
    ∙ ap (λ (P : Plain). c.loop-bits.out ++ cond (is_own bit (root_up P after.top (reverse after.path) net offset)) (net_line P after.top bit) []) plain
    ∙ ap (λ (t : ModId). c.loop-bits.out ++ cond (is_own bit (root_up M t (reverse after.path) net offset)) (net_line M t bit) []) is_top
    in
    let Counted : Plain → Type 0 = λ P. AreCounted P c.push_if_own.new.counts.modules.items in
    record {
      plain = plain;
      top = is_top;
      inner = inner-tail M top before.rest after.rest bit c.loop-bits.invariant.inner step.next;
      counted = subst Counted (ap (λ (w : WayTo). w.plain) c.way.ensures ∙ plain) c.in_ok-push_if_own.ensures.counted;
      kept = kept_more _ _ _ c.loop-bits.invariant.kept (kept_text _ _ _ line);
      text = more_kept (net_line M top) (λ (b : NetBit). is_own b (root_of M top b)) c.loop-bits.out c.push_if_own.new.out _ bit before.rest after.rest c.loop-bits.invariant.text step.next line;
    }
