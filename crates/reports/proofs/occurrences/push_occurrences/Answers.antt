use Rattle.std.proofs.Common.{◌≡◌, ◌++◌, ap, ◌∙◌}
use Rattle.reports.specs.Occurrences.{occurrence_lines}
use Rattle.emh_base.specs.declared.ids.ModId.{ModId}
use Rattle.emh_base.specs.declared.plain.Plain.{Plain}
use Rattle.flatten_rules.proofs.Comes.{is-at}
use Rattle.reports.proofs.Kept.{kept_more, kept_text, more_lines}
use Rattle.reports.proofs.occurrences.push_occurrences.Goals as goal

pub push_occurrence-requires-clause-found : goal.push_occurrence-requires-clause-found
push_occurrence-requires-clause-found c =
    let there = rw c.way-way.ensures at c.module.ensures.there in
    let at = is-at c.loop-walk.walk c.advance.new.self c.module.result.now c.in_ok-advance.field-0 c.in_ok-advance.ensures.next c.if-branch.true there in
    rw c.way-way.ensures at.found

pub loop-walk-preserved : goal.loop-walk-preserved
loop-walk-preserved c =
    let M = c.args.plain.now in
    let top = c.args.top in
    let after = c.advance.new.self in
    let m = c.module.result.now in
    let plain : after.plain ≡ M = c.in_ok-advance.ensures.plain ∙ c.loop-walk.invariant.plain in
    let is_top : after.top ≡ top = c.in_ok-advance.ensures.top ∙ c.loop-walk.invariant.top in
    let there = rw c.way-way.ensures at c.module.ensures.there in
    let at = is-at c.loop-walk.walk after m c.in_ok-advance.field-0 c.in_ok-advance.ensures.next c.if-branch.true there in
    let line : c.push_occurrence.new.out ≡ c.loop-walk.out ++ occurrence_lines M top (after.path, m.id) =
    rw c.way-way.ensures at c.in_ok-push_occurrence.ensures.ok
    ∙ ap (λ (P : Plain). c.loop-walk.out ++ occurrence_lines P after.top (after.path, m.id)) plain
    ∙ ap (λ (t : ModId). c.loop-walk.out ++ occurrence_lines M t (after.path, m.id)) is_top in
    record {
      plain = plain;
      top = is_top;
      kept = kept_more _ _ _ c.loop-walk.invariant.kept (kept_text _ _ _ line);
      text = more_lines (occurrence_lines M top) c.loop-walk.out c.push_occurrence.new.out _ (after.path, m.id) c.loop-walk.walk.rest after.rest c.loop-walk.invariant.text at.next line;
    }
