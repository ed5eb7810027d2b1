use Rattle.std.proofs.Common.{◌≡◌, true, [], ◌∷◌, ◌++◌, map, sym, ap, ◌∙◌}
use Rattle.std.specs.List.{filter}
use Rattle.emh_base.specs.declared.plain.Plain.{Plain}
use Rattle.flatten_rules.specs.Lookup.{module_of}
use Rattle.flatten_rules.specs.Unfolding.{Occurrence}
use Rattle.flatten_rules.specs.Domains.{is_leaf}
use Rattle.flatten_rules.specs.Fresh.{fresh_inst}
use Rattle.flatten_rules.proofs.Comes.{is-at}
use Rattle.flatten_rules.proofs.Told.{told-more, next-passes}
use Rattle.flatten_rules.proofs.flatten.insts_of.Goals as goal

pub loop-walk-preserved-in_ok-push : goal.loop-walk-preserved-in_ok-push
loop-walk-preserved-in_ok-push c =
    let M = c.args.plain.now in
    let after = c.advance.new.self in
    let m = c.module-holder.result.now in
    let made = fresh_inst c.args.places.now in
    let test = λ (o : Occurrence). is_leaf (module_of M o.1) in
    let plain : after.plain ≡ M = c.in_ok-advance.ensures.plain ∙ c.loop-walk.invariant.plain in
    let there = rw c.way.ensures at c.module-holder.ensures.there in
    let at = is-at c.loop-walk.walk after m c.in_ok-advance.field-0 c.in_ok-advance.ensures.next c.if-branch.true there in
    let leaf : is_leaf (module_of M m.id) ≡ true = ap (λ (P : Plain). is_leaf (module_of P m.id)) (sym plain) ∙ ap is_leaf at.found ∙ c.if-holder.true in
    let path : c.in_ok-path.field-0 ≡ after.path = rw c.way-then-holder.ensures at c.in_ok-path.ensures in
    let more : c.push.new.self ≡ c.loop-walk.made ++ made (after.path, m.id) ∷ [] = c.in_ok-push.ensures.ok ∙ ap (λ inst. c.loop-walk.made ++ inst ∷ []) (c.fresh_inst.ensures ∙ ap (λ p. made (p, m.id)) path) in
    record {
      plain = plain;
      top = c.in_ok-advance.ensures.top ∙ c.loop-walk.invariant.top;
      all = told-more c.loop-walk.made (made (after.path, m.id) ∷ []) c.push.new.self _ (map made (filter test after.rest)) _ c.loop-walk.invariant.all (next-passes made test (after.path, m.id) c.loop-walk.walk.rest after.rest at.next leaf) more;
    }
