use Rattle.std.proofs.Common.{◌≡◌, [], ◌∷◌, ◌++◌, map, ap, ◌∙◌}
use Rattle.flatten_rules.specs.Fresh.{fresh_occ}
use Rattle.flatten_rules.proofs.Comes.{is-at}
use Rattle.flatten_rules.proofs.Told.{told-more}
use Rattle.flatten_rules.proofs.flatten.occs_of.Goals as goal

pub loop-walk-preserved : goal.loop-walk-preserved
loop-walk-preserved c =
    let after = c.advance.new.self in
    let m = c.module.result.now in
    let there = rw c.way-in-loop-walk.ensures at c.module.ensures.there in
    let at = is-at c.loop-walk.walk after m c.in_ok-advance.field-0 c.in_ok-advance.ensures.next c.if-branch.true there in
    let path : c.in_ok-path.field-0 ≡ after.path = rw c.way.ensures at c.in_ok-path.ensures in
    let made : c.push.new.self ≡ c.loop-walk.made ++ fresh_occ (after.path, m.id) ∷ [] = c.in_ok-push.ensures.ok ∙ ap (λ p. c.loop-walk.made ++ fresh_occ (p, m.id) ∷ []) path in
    record {
      plain = c.in_ok-advance.ensures.plain ∙ c.loop-walk.invariant.plain;
      top = c.in_ok-advance.ensures.top ∙ c.loop-walk.invariant.top;
      all = told-more c.loop-walk.made (fresh_occ (after.path, m.id) ∷ []) c.push.new.self _ (map fresh_occ after.rest) _ c.loop-walk.invariant.all (ap (map fresh_occ) at.next) made;
    }
