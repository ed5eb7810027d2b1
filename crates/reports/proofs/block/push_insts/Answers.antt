use Rattle.std.proofs.Common.{◌≡◌, [], ◌++◌, cond, ap, sym, ◌∙◌}
use Rattle.emh_base.specs.declared.ids.ModId.{ModId}
use Rattle.emh_base.specs.declared.plain.Plain.{Plain}
use Rattle.flatten_rules.specs.Lookup.{module_of}
use Rattle.flatten_rules.specs.Unfolding.{Occurrence}
use Rattle.flatten_rules.specs.Domains.{is_leaf}
use Rattle.flatten_rules.specs.Way.{WayTo}
use Rattle.reports.specs.Block.{inst_line}
use Rattle.flatten_rules.proofs.Comes.{is-at}
use Rattle.reports.proofs.Kept.{kept_more, kept_text, more_kept}
use Rattle.reports.proofs.block.push_insts.Goals as goal

pub push_if_leaf-requires : goal.push_if_leaf-requires
push_if_leaf-requires c =
    let there = rw c.way-way.ensures at c.module.ensures.there in
    let at = is-at c.loop-walk.walk c.advance.new.self c.module.result.now c.in_ok-advance.field-0 c.in_ok-advance.ensures.next c.if-branch.true there in
    rw c.way-way.ensures at.found

pub loop-walk-preserved : goal.loop-walk-preserved
loop-walk-preserved c =
    let M = c.args.plain.now in
    let top = c.args.top in
    let places = c.args.places.now in
    let after = c.advance.new.self in
    let m = c.module.result.now in
    let plain : after.plain ≡ M = c.in_ok-advance.ensures.plain ∙ c.loop-walk.invariant.plain in
    let is_top : after.top ≡ top = c.in_ok-advance.ensures.top ∙ c.loop-walk.invariant.top in
    let there = rw c.way-way.ensures at c.module.ensures.there in
    let at = is-at c.loop-walk.walk after m c.in_ok-advance.field-0 c.in_ok-advance.ensures.next c.if-branch.true there in
    let found = ap (λ (P : Plain). module_of P m.id) (sym plain) ∙ at.found in
    let line : c.push_if_leaf.new.out ≡ c.loop-walk.out ++ cond (is_leaf (module_of M m.id)) (inst_line M top places (after.path, m.id)) [] =
    c.in_ok-push_if_leaf.ensures.ok
    ∙ ap (λ (w : WayTo). c.loop-walk.out ++ cond m.leaf (inst_line w.plain w.top places (w.path, m.id)) []) c.way-way.ensures
    ∙ ap (λ (P : Plain). c.loop-walk.out ++ cond m.leaf (inst_line P after.top places (after.path, m.id)) []) plain
    ∙ ap (λ (t : ModId). c.loop-walk.out ++ cond m.leaf (inst_line M t places (after.path, m.id)) []) is_top
    ∙ ap (λ leaf. c.loop-walk.out ++ cond leaf (inst_line M top places (after.path, m.id)) []) (sym (ap is_leaf found)) in
    record {
      plain = plain;
      top = is_top;
      kept = kept_more _ _ _ c.loop-walk.invariant.kept (kept_text _ _ _ line);
      text = more_kept (inst_line M top places) (λ (o : Occurrence). is_leaf (module_of M o.1)) c.loop-walk.out c.push_if_leaf.new.out _ (after.path, m.id) c.loop-walk.walk.rest after.rest c.loop-walk.invariant.text at.next line;
    }
