use Rattle.std.proofs.Common.{◌≡◌, ◌≤◌, arith, Bool, List, map, length, sym, ap, ◌∙◌}
use Rattle.std.proofs.lemmas.List.{length-map}
use Rattle.session_rules.specs.Session.{PlainSession, marked}
use Rattle.emh_session.proofs.Commands.{session_of}
use Rattle.emh_session.proofs.Marks.{marked-absent, written-over}
use Rattle.emh_session.proofs.session.Session.set_marks.Goals as goal

pub returns-then-mark_named-clause-answers : goal.returns-then-mark_named-clause-answers
returns-then-mark_named-clause-answers g c =
    let names = map (λ b. (goal.Observer-dyn g (b.vtable, b.value)).called b.value) c.args.watch.now in
    let low : c.self.inside.enabled.len ≤ length c.mark_named.new.enabled =
    omega (arith, c.self.inside.enabled.ok.0, c.mark_named.auto.enabled, c.as_mut_slice.ensures.len) in
    let high : length c.mark_named.new.enabled ≤ c.self.inside.enabled.len =
    omega (arith, c.self.inside.enabled.ok.0, c.mark_named.auto.enabled, c.as_mut_slice.ensures.len) in
    let marks = written-over c.self.inside.enabled.len c.mark_named.new.enabled c.self.inside.enabled.items low high
    ∙ c.mark_named.ensures.marks ∙ ap (marked c.args.name.now c.args.on names) c.as_mut_slice.ensures.value in
    rw (← c.self.view_is)
    (sym c.mark_named.ensures.found ∙ c.if-mark_named.true, ap (λ (bs : List Bool). session_of bs c.self.inside.budget c.self.inside.desk) marks)

pub returns-clause-answers : goal.returns-clause-answers
returns-clause-answers g c =
    let names = map (λ b. (goal.Observer-dyn g (b.vtable, b.value)).called b.value) c.args.watch.now in
    let low : c.self.inside.enabled.len ≤ length c.mark_named.new.enabled =
    omega (arith, c.self.inside.enabled.ok.0, c.mark_named.auto.enabled, c.as_mut_slice.ensures.len) in
    let high : length c.mark_named.new.enabled ≤ c.self.inside.enabled.len =
    omega (arith, c.self.inside.enabled.ok.0, c.mark_named.auto.enabled, c.as_mut_slice.ensures.len) in
    let marks = written-over c.self.inside.enabled.len c.mark_named.new.enabled c.self.inside.enabled.items low high
    ∙ c.mark_named.ensures.marks ∙ ap (marked c.args.name.now c.args.on names) c.as_mut_slice.ensures.value in
    let none = sym c.mark_named.ensures.found ∙ c.if-mark_named.false in
    let same : length names ≡ length c.self.inside.enabled.items =
    length-map c.args.watch.now (λ b. (goal.Observer-dyn g (b.vtable, b.value)).called b.value)
    ∙ c.requires ∙ sym (ap (λ (s : PlainSession). length s.enabled) c.self.view_is) in
    rw (← c.self.view_is) (
      none,
      ap (λ (bs : List Bool). session_of bs c.self.inside.budget c.self.inside.desk)
          (marks ∙ marked-absent c.args.name.now c.args.on names c.self.inside.enabled.items same none),
    )
